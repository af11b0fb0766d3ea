-- The tables while the clusters rise: the entries below a are those of the best trees, and from a on the score table still holds the weights.
use Prim.Native.Nat.{ℕ, ◌+◌, ◌^◌, ◌≤◌, ◌<◌, min}
use mathlib.Core.Path.{◌≡◌, refl, sym, ap, ◌∙◌}
use mathlib.Core.Logic.{◌⊎◌, inl, inr}
use mathlib.Core.Bool.{Bool}
use mathlib.Core.Option.{Option, some, none}
use mathlib.Core.List.{List, ◌++◌, map}
use native.Mathlib.Omega.{arith}
use lib.ListN.{length, get_or, set, length-set}
use lib.Seq.{get_or-set_other, set-set, drop-set-lt}
use lib.Pow.{pow_mono, pow_pos}
use Rattle.clusters.specs.Sets.{single, whole}
use Rattle.clusters.proofs.Sets.{whole_below}
use Rattle.clusters.proofs.Sizes.{size-le}
use Rattle.trees.specs.Lists.{up_to}
use Rattle.splits.specs.BinaryTrees.{Binary}
use Rattle.splits.specs.Least.{best, no_tree, score_entry, split_entry, filled}
use Rattle.std.specs.Prelude.{Option as Maybe, Some, None, IfSome, option_copied}
use Rattle.std.proofs.Common.{Bor}
use Rattle.tables.specs.Work.{Next, Settles, Fillable, Fills}
use Rattle.splits.specs.Work.{Light, Scored, ScoresBelow}
use Rattle.splits.proofs.Recurrence.{best_on_lem, score-bound, entry_zero, split-zero}
use Rattle.tables.proofs.Written.{written, written_none, written_next, written-length, written_at, written_behind_lem, written-entries}

-- ---- 2^n entries

pub entries_few : {n : ℕ} → n ≤ 16 → 2 ^ n ≤ 65536
entries_few h = pow_mono h

pub below_of_whole : (n a : ℕ) → a ≤ whole n → a < 2 ^ n
below_of_whole n a l = omega (arith, whole_below n)

pub past_whole : (n a : ℕ) → whole n < a → 2 ^ n ≤ a
unfolding whole
past_whole n a l = omega arith

pub entries : (n : ℕ) → single n ≡ 2 ^ n
unfolding single
entries n = refl

-- so many bytes are there, where there are bytes
pub bytes_there : (n a : ℕ) (allowed : Maybe (Bor (List ℕ))) → IfSome (option_copied allowed) (λ bytes. 2 ^ n ≤ length bytes) → a < 2 ^ n → IfSome allowed (λ bytes. a < length bytes.now)
bytes_there n a None long l = tt
bytes_there n a (Some bytes) long l = omega arith

-- ---- an entry of the score table is the mark, or far below it

entry-small :
    (w : ℕ → ℕ) (ok : ℕ → Bool) (b : ℕ) → Light w → b < 65536 → (o : Option Binary) → best w ok b ≡ o
    → (score_entry w o ≡ no_tree) ⊎ (score_entry w o < 8388608)
entry-small w ok b light l none e = inl refl
entry-small w ok b light l (some t) e = inr (omega (arith, score-bound light (best_on_lem w ok b t e), size-le 16 l))

-- ---- the invariant

abbrev score_on : (ℕ → ℕ) → (ℕ → Bool) → ℕ → ℕ
score_on w ok b = score_entry w (best w ok b)

abbrev split_on : (ℕ → ℕ) → (ℕ → Bool) → ℕ → ℕ
split_on w ok b = split_entry (best w ok b)

pub record Reached (n : ℕ) (ok : ℕ → Bool) (lent_scores lent_splits scores splits : List ℕ) (a : ℕ) : Type 0 where
  pub some : 1 ≤ a
  pub last : a ≤ 2 ^ n
  pub few : n ≤ 16
  pub scores_long : 2 ^ n ≤ length lent_scores
  pub splits_long : 2 ^ n ≤ length lent_splits
  pub light : (b : ℕ) → 1 ≤ b → b < 2 ^ n → get_or lent_scores b 0 ≤ 131072
  pub tables : (w : ℕ → ℕ) → Light w → ((b : ℕ) → 1 ≤ b → b < 2 ^ n → get_or lent_scores b 0 ≡ w b)
      → (scores ≡ written (λ b. score_entry w (best w ok b)) a lent_scores)
      × (splits ≡ written (λ b. split_entry (best w ok b)) a lent_splits)

first_written : (f : ℕ → ℕ) (v : ℕ) (l : List ℕ) → f 0 ≡ v → 1 ≤ length l → set l 0 v ≡ written f 1 (set l 0 v)
first_written f v l e h =
    sym (set-set l 0 v v) ∙ ap (set (set l 0 v) 0) (sym e) ∙ ap (λ r. set r 0 (f 0)) (sym (written_none f (set l 0 v)))
    ∙ written_next f 0 (set l 0 v) (omega (arith, length-set l 0 v))

kept-behind : (l : List ℕ) (v b : ℕ) → 1 ≤ b → get_or (set l 0 v) b 0 ≡ get_or l b 0
kept-behind l v b h = get_or-set_other l 0 b v 0 (λ e. omega arith)

pub reached_start : {n : ℕ} {allowed : Maybe (List ℕ)} {scores splits : List ℕ} (ok : ℕ → Bool) → Fillable n allowed scores splits
    → Reached n ok (set scores 0 no_tree) (set splits 0 0) (set scores 0 no_tree) (set splits 0 0) 1
reached_start {n = n} {scores = scores} {splits = splits} ok f =
    let ns = f.scores_long in
    let np = f.splits_long in
    record {
      some = omega arith;
      last = pow_pos n;
      few = f.few;
      scores_long = omega (arith, length-set scores 0 no_tree);
      splits_long = omega (arith, length-set splits 0 0);
      light = λ b one l. omega (arith, kept-behind scores no_tree b one, f.light b l);
      tables = λ w light h. (
        first_written (score_on w ok) no_tree scores (entry_zero w ok) (omega (arith, pow_pos n)),
        first_written (split_on w ok) 0 splits (split-zero w ok) (omega (arith, pow_pos n)),
      );
    }

module _ {n : ℕ} {ok : ℕ → Bool} {lent_scores lent_splits scores splits : List ℕ} {a : ℕ} (r : Reached n ok lent_scores lent_splits scores splits a) where
  -- weights that the lent table holds, whatever stands behind its 2^n entries
  own : ℕ → ℕ
  own b = min (get_or lent_scores b 0) 131072

  own-light : Light own
  unfolding own
  own-light b = omega arith

  own_held : (b : ℕ) → 1 ≤ b → b < 2 ^ n → get_or lent_scores b 0 ≡ own b
  unfolding own
  own_held b one l = omega (arith, r.light b one l)

  own-tables : (scores ≡ written (score_on own ok) a lent_scores) × (splits ≡ written (split_on own ok) a lent_splits)
  own-tables = r.tables own own-light own_held

  pub reached-lengths : (length scores ≡ length lent_scores) × (length splits ≡ length lent_splits)
  reached-lengths =
      let last = r.last in
      let ns = r.scores_long in
      let np = r.splits_long in (
        ap length own-tables.0 ∙ written-length (score_on own ok) a lent_scores (omega arith),
        ap length own-tables.1 ∙ written-length (split_on own ok) a lent_splits (omega arith),
      )

  scored-below : Scored a scores
  scored-below b l =
      let few = entries_few r.few in
      let last = r.last in
      let e : get_or scores b 0 ≡ score_on own ok b = ap (λ t. get_or t b 0) own-tables.0 ∙ written_at (score_on own ok) a lent_scores b l in
      rw e (entry-small own ok b own-light (omega arith) (best own ok b) refl)

  pub reached_next_cluster : a < 2 ^ n → Next a scores splits
  reached_next_cluster l =
      let few = entries_few r.few in
      let ns = r.scores_long in
      let np = r.splits_long in
      let lengths = reached-lengths in
      record {
        some = r.some;
        below = omega arith;
        score_within = omega arith;
        split_within = omega arith;
        scored = scored-below;
        light = omega (arith, ap (λ t. get_or t a 0) own-tables.0, written_behind_lem (score_on own ok) a lent_scores a (omega arith), r.light a r.some l);
      }

  pub reached_next : {scores' splits' : List ℕ} → a < 2 ^ n → Settles ok a scores splits scores' splits'
      → Reached n ok lent_scores lent_splits scores' splits' (a + 1)
  reached_next {scores'} {splits'} l settles =
      record {
        some = omega arith;
        last = omega arith;
        few = r.few;
        scores_long = r.scores_long;
        splits_long = r.splits_long;
        light = r.light;
        tables = λ w light h. step w light h (r.tables w light h);
      }
    where
      step : (w : ℕ → ℕ) → Light w → ((b : ℕ) → 1 ≤ b → b < 2 ^ n → get_or lent_scores b 0 ≡ w b)
          → (scores ≡ written (score_on w ok) a lent_scores) × (splits ≡ written (split_on w ok) a lent_splits)
          → (scores' ≡ written (score_on w ok) (a + 1) lent_scores) × (splits' ≡ written (split_on w ok) (a + 1) lent_splits)
      step w light h e =
          let below : ScoresBelow w ok a scores = λ b k. ap (λ t. get_or t b 0) e.0 ∙ written_at (score_on w ok) a lent_scores b k in
          let weight : get_or scores a 0 ≡ w a = ap (λ t. get_or t a 0) e.0 ∙ written_behind_lem (score_on w ok) a lent_scores a (omega arith) ∙ h a r.some l in
          let set_both = settles w light below weight in
          let ns = r.scores_long in
          let np = r.splits_long in (
            set_both.0 ∙ ap (λ t. set t a (score_on w ok a)) e.0 ∙ written_next (score_on w ok) a lent_scores (omega arith),
            set_both.1 ∙ ap (λ t. set t a (split_on w ok a)) e.1 ∙ written_next (split_on w ok) a lent_splits (omega arith),
          )

-- all entries are there: those of the tables as they were lent stay from 2^n on
all_written : (f : ℕ → ℕ) (n a v : ℕ) (l : List ℕ) → a ≡ 2 ^ n → written f a (set l 0 v) ≡ filled n f l
all_written f n a v l e =
    ap (λ k. written f k (set l 0 v)) e ∙ written-entries f (2 ^ n) (set l 0 v) ∙ ap (λ t. map f (up_to (2 ^ n)) ++ t) (drop-set-lt (2 ^ n) l 0 v (pow_pos n))

pub reached_end : {n : ℕ} {ok : ℕ → Bool} {scores splits : List ℕ} {a : ℕ} (lent_scores lent_splits : List ℕ)
    → Reached n ok (set lent_scores 0 no_tree) (set lent_splits 0 0) scores splits a → 2 ^ n ≤ a
    → Fills n ok lent_scores lent_splits scores splits
reached_end {n} {ok} {scores} {splits} {a} lent_scores lent_splits r past w light h =
    let last = r.last in
    let e : a ≡ 2 ^ n = omega arith in
    let both = r.tables w light (λ b one l. kept-behind lent_scores no_tree b one ∙ h b l) in
    (both.0 ∙ all_written (score_on w ok) n a no_tree lent_scores e, both.1 ∙ all_written (split_on w ok) n a 0 lent_splits e)
