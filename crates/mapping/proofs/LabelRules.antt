-- Labels by the rules, with a byte behind them, are the labels that are read off a text.
use Prim.Native.Nat.{ℕ, ◌+◌, ◌<◌}
use native.Mathlib.Numerals.{add-one}
use mathlib.Core.Path.{◌≡◌, refl, sym, ap, ◌∙◌}
use mathlib.Core.Bool.{true, false, false≢true}
use mathlib.Core.List.{List, [], ◌∷◌}
use lib.ListN.{length, drop}
use lib.Seq.{drop-cons, drop-drop}
use Rattle.labels.specs.Bytes.{is_label, next_label}
use Rattle.labels.specs.Labels.{padded}
use Rattle.labels.proofs.Spelled.{whole_exact, told_sound, no_label_over, spells_first}
use Rattle.roster.specs.Roster.{byte_at, name_at}
use Rattle.roster.proofs.Heads.{head-within, head_byte, head-rest}
use Rattle.mapping.specs.Grammar.{LabelThen}
use Rattle.mapping.specs.Work.{LabelEnds}

-- the label at `at` stands for w; b stands behind it, at `next`, and rest is what follows
pub record ThenAt (text : List ℕ) (at : ℕ) (w : List ℕ) (b : ℕ) (rest : List ℕ) : Type 0 where
  pub next : ℕ
  pub ends : LabelEnds text at next (padded w)
  pub name : name_at text at ≡ w
  pub here : next < length text
  pub byte : byte_at text next ≡ b
  pub left : drop (next + 1) text ≡ rest

-- a label by the rules is read so
pub then_at : (text : List ℕ) (at : ℕ) (w : List ℕ) (b : ℕ) (rest : List ℕ) → is_label b ≡ false → LabelThen w b (drop at text) rest → ThenAt text at w b rest
unfolding name_at next_label
then_at text at w b rest other l =
    let s = drop at text in
    let e = whole_exact (record { spelled = l.spelled; over = no_label_over s (b ∷ rest) other }) in
    let behind : drop (at + e.width) text ≡ b ∷ rest = sym (drop-drop e.width at text) ∙ e.left in
    record {
      next = at + e.width;
      ends = record { label = label (drop at text) refl (spells_first l.spelled); n = e.width; says = e.short l.short; place = refl; called = ap padded (sym e.name) };
      name = e.name;
      here = head-within text (at + e.width) b rest behind;
      byte = head_byte text (at + e.width) b rest behind;
      left = ap (λ (p : ℕ). drop p text) (add-one (at + e.width)) ∙ head-rest text (at + e.width) b rest behind;
    }
  where
    label : (s : List ℕ) → drop at text ≡ s → next_label s ≡ true → is_label (byte_at text at) ≡ true
    label [] e first = absurd (false≢true first)
    label (c ∷ t) e first = ap is_label (head_byte text at c t e) ∙ first

-- and a label that is read is one by the rules
pub at_then : (text : List ℕ) (at next : ℕ) (name : List ℕ) → LabelEnds text at next name → at < length text → next < length text
    → LabelThen (name_at text at) (byte_at text next) (drop at text) (drop (next + 1) text)
unfolding name_at next_label
at_then text at next name ends inside here =
    let first : next_label (drop at text) ≡ true = rw (drop-cons text at 0 inside) ends.label in
    let s = told_sound (drop at text) ends.n first ends.says in
    let behind : drop ends.n (drop at text) ≡ byte_at text next ∷ drop (next + 1) text =
    drop-drop ends.n at text ∙ ap (λ (p : ℕ). drop p text) (sym ends.place) ∙ drop-cons text next 0 here
    ∙ ap (λ (p : ℕ). byte_at text next ∷ drop p text) (sym (add-one next)) in
    record { spelled = rw behind at s.whole.spelled; short = s.short }
