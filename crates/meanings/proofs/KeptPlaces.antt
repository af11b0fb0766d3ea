-- Places before which nothing is at fault: behind what was read a text goes on, or a label or a number that is still open.
use mathlib.Core.Bool.{Bool, false, false≢true}
use Prim.Native.Nat.{ℕ, suc, ◌+◌, ◌-◌, ◌≤◌, max, zero-le}
use native.Mathlib.Omega.{arith}
use mathlib.Core.Path.{◌≡◌, refl, sym, ap, ◌∙◌}
use mathlib.Core.List.{List, [], ◌∷◌, ◌++◌, append_assoc}
use lib.ListN.{length, get_or, take, drop, length-append, length-take}
use lib.Seq.{take-append_seam, take-append-add}
use Rattle.labels.specs.Bytes.{is_digit, next_label}
use Rattle.labels.specs.Spelling.Run.{one}
use Rattle.labels.specs.Labels.{label_bytes, letters}
use Rattle.labels.proofs.LabelFronts.{Front}
use Rattle.labels.proofs.OpenLabels.{Open}
use Rattle.trees.specs.Lists.{NoneTwice}
use Rattle.trees.specs.Tree.{Tree, leaves, leaves_of}
use Rattle.trees.specs.Tree.Tree.{node}
use Rattle.trees.specs.Tree.Forest.{last}
use Rattle.roster.specs.Roster.{byte_before}
use Rattle.tokens.specs.Tokens.{number_bytes}
use Rattle.nodes.specs.Grammar.{Blanks, Number}
use Rattle.nodes.specs.Grammar.Blanks.{none, blank}
use Rattle.nodes.specs.Grammar.Number.{whole}
use Rattle.nodes.specs.Grammar.Numbers.{nothing}
use Rattle.nodes.specs.Grammar.Inner.{nameless}
use Rattle.nodes.specs.Grammar.Node.{a_leaf, an_inner}
use Rattle.nodes.specs.Grammar.Children.{the_last}
use Rattle.nodes.specs.Grammar.Text.{text}
use Rattle.nodes.specs.Deciding.{next_digit, GoesOnAlike}
use Rattle.nodes.proofs.Fronts.{Then, BlanksAnd}
use Rattle.meanings.specs.Meaning.{part_before, known, Kept}
use Rattle.meanings.proofs.Alike.{stops-alike}
use Rattle.meanings.proofs.FreshSpecies.{Fresh, fresh-unknown}
use Rattle.meanings.proofs.ReadingSteps.{Left, back_from, all_length}
use Rattle.meanings.proofs.KeptContexts.{MayFollow, NodeIn, ChildrenIn, NumberIn, NameIn, stand_as, stand-before, unknown_leaf, late-leaf, late-children, ends_late, unknown-leaf-fresh}
use Rattle.meanings.proofs.KeptContexts.{NodeOf, node_kept, blanks-node, late}

-- ---- from a place where a piece may stand

no_digit_next : (end rest : List ℕ) → 1 ≤ length end → is_digit (get_or end 0 0) ≡ false → next_digit (end ++ rest) ≡ false
unfolding next_digit
no_digit_next [] rest some other = absurd (omega arith)
no_digit_next (b ∷ end) rest some other = other

-- the end of an open label goes on with it
open_alike : (before : ℕ) {s : List ℕ} {j : ℕ} (o : Open s j) (rest : List ℕ) → GoesOnAlike before (o.end ++ rest) (drop j s)
open_alike before o rest =
    record {
      label = record { bare = λ is e. o.bare_on rest e; quote = λ is e. o.quote_on rest e };
      digits = λ is e. absurd (false≢true (sym (no_digit_next o.end rest o.some o.no_digit) ∙ e));
    }

-- of a token that the place cuts, its bytes before the place
part_cut : (x y rest : List ℕ) → part_before (length (y ++ rest)) (x ++ (y ++ rest)) rest ≡ x
part_cut x y rest =
    let all = length-append x (y ++ rest) in
    let both = length-append y rest in
    let count : length (x ++ (y ++ rest)) - max (length (y ++ rest)) (length rest) ≡ length x = omega arith in
    ap (λ (n : ℕ). take n (x ++ (y ++ rest))) count ∙ take-append_seam x (y ++ rest)

-- j bytes of s are the front of a piece that may stand there, with y behind them
module _ (given : Bool) (names : List (List ℕ)) {most : ℕ} (P : ℕ → List ℕ → List ℕ → Type 0) {s₀ u s : List ℕ} (left : Left s₀ u s) (may : MayFollow given names most P u) where
  pub kept_at :
      (j : ℕ) → j ≤ length s → (y : List ℕ) → GoesOnAlike (byte_before s₀ (length u + j)) (y ++ may.end) (drop j s)
      → P (length (y ++ may.end)) (take j s ++ (y ++ may.end)) may.end → Kept given names most s₀ (length u + j)
  kept_at j fits y alike p =
      let behind = y ++ may.end in
      let size : length behind ≡ length y + length may.end = length-append y may.end in
      let all : length s₀ ≡ length u + length s = all_length left in
      let regrouped : (take j s ++ y) ++ may.end ≡ take j s ++ behind = append_assoc (take j s) y may.end in
      let front : take (length u + j) s₀ ≡ u ++ take j s = ap (take (length u + j)) left.whole ∙ take-append-add u s j in
      let t = may.text (length behind) (omega arith) (take j s ++ y) (rw regrouped p) in
      record {
        inside = omega arith;
        more = behind;
        unended = omega (arith, may.some);
        alike = rw (back_from left j) alike;
        tree = t.tree;
        text = rw front (simp append_assoc (simp append_assoc at t.text));
        once = t.once;
      }

-- ---- open labels and numbers

module _ (given : Bool) (names : List (List ℕ)) {most : ℕ} {s₀ u s : List ℕ} (left : Left s₀ u s) where
  -- a leaf's label
  pub open_leaf_kept : {room seen j : ℕ} → MayFollow given names most (NodeIn given names room seen) u → Open s j → Kept given names most s₀ (length u + j)
  open_leaf_kept {room} {seen} {j} may o =
      let end = may.end in
      let behind = o.end ++ end in
      let size = length-append o.end end in
      let short : length (letters (part_before (length behind) (take j s ++ behind) end)) ≤ label_bytes = rw (part_cut (take j s) o.end end) o.short in
      kept_at given names (NodeIn given names room seen) left may j o.within o.end (open_alike (byte_before s₀ (length u + j)) o end)
      (record {
        tree = unknown_leaf given names;
        derives = a_leaf none (o.spells end) (ends_late given names (length behind) o.name (take j s ++ behind) end short (omega (arith, o.some))) nothing;
        fresh = unknown-leaf-fresh given names seen;
      })

  -- the label of an inner node
  pub open_name_kept : {j : ℕ} → MayFollow given names most (NameIn names) u → Open s j → Kept given names most s₀ (length u + j)
  open_name_kept {j} may o =
      let end = may.end in
      kept_at given names (NameIn names) left may j o.within o.end (open_alike (byte_before s₀ (length u + j)) o end)
      (record { w = o.name; spelled = o.spells end; short = rw (part_cut (take j s) o.end end) o.short })

  -- a number of which j bytes stand before the place, with y behind them, so that it has not ended there
  pub number-kept :
      (may : MayFollow given names most (NumberIn given) u) (j : ℕ) (w y : List ℕ) → 1 ≤ length y → j ≤ length s → j ≤ number_bytes
      → ((rest : List ℕ) → Number w (take j s ++ (y ++ rest)) rest)
      → GoesOnAlike (byte_before s₀ (length u + j)) (y ++ may.end) (drop j s) → Kept given names most s₀ (length u + j)
  number-kept may j w y some fits short derives alike =
      let end = may.end in
      let size = length-append y end in
      kept_at given names (NumberIn given) left may j fits y alike
      (record {
        w = w;
        mid = take j s ++ (y ++ end);
        gap = none;
        derives = derives end;
        short = rw (part_cut (take j s) y end) (omega (arith, length-take j s));
        not_fine = λ ends. absurd (omega arith);
      })

-- ---- places where nothing needs to stand: with the end behind it, what was read is a text

-- no byte
pub record NoneIn (m : ℕ) (v rest : List ℕ) : Type 0 where
  pub unread : v ≡ rest

module _ (given : Bool) (names : List (List ℕ)) {most : ℕ} where
  pub kept_here : {s₀ u s : List ℕ} → Left s₀ u s → MayFollow given names most NoneIn u → Kept given names most s₀ (length u)
  kept_here {s₀} {u} {s} left may =
      let here : length u + 0 ≡ length u = omega arith in
      rw here at
      (kept_at given names NoneIn left may 0 zero-le [] (stops-alike (byte_before s₀ (length u + 0)) may.end s may.stops) (record { unread = refl }))

  -- where a node may stand, ` a`
  pub node_here : {room seen : ℕ} {u : List ℕ} → MayFollow given names most (NodeIn given names room seen) u → MayFollow given names most NoneIn u
  unfolding next_label
  node_here {room} {seen} may =
      stand_as given names (NodeIn given names room seen) NoneIn 32 (97 ∷ []) refl
      (λ m v rest l e.
      rw e.unread
      (blanks-node given names room seen m (32 ∷ 97 ∷ rest) (97 ∷ rest) rest (blank refl none)
      (record { tree = unknown_leaf given names; derives = late-leaf given names m room rest (omega arith); fresh = unknown-leaf-fresh given names seen })))
      may

  -- where a number may stand, ` 0`
  pub number_here : {u : List ℕ} → MayFollow given names most (NumberIn given) u → MayFollow given names most NoneIn u
  unfolding next_label
  number_here may =
      stand_as given names (NumberIn given) NoneIn 32 (48 ∷ []) refl
      (λ m v rest l e.
      rw e.unread
      (record {
        w = 48 ∷ [];
        mid = 48 ∷ rest;
        gap = blank refl none;
        derives = whole (one refl);
        short = rw (late m (48 ∷ rest) rest (omega arith)) zero-le;
        not_fine = λ ends. absurd (omega arith);
      }))
      may

  -- behind `(`, a first child and blanks, `,a)`
  pub first_child_here :
      {u s rest : List ℕ} (room seen : ℕ) (t : Tree) → Fresh names seen (leaves t) → MayFollow given names most (NodeIn given names (suc room) seen) u
      → (f : Front (Then (Then (BlanksAnd 40) (NodeOf given names room t)) Blanks) s rest) → MayFollow given names most NoneIn (u ++ f.bytes)
  unfolding next_label leaves leaves_of
  first_child_here room seen t fresh may f =
      stand-before given names (NodeIn given names (suc room) seen) NoneIn (Then (Then (BlanksAnd 40) (NodeOf given names room t)) Blanks) 44 (97 ∷ 41 ∷ []) refl
      (λ m s v rest l h e.
      record {
        tree = node t (last (unknown_leaf given names)) (record { name = []; distance = []; support = [] });
        derives = an_inner h.first.first (node_kept given names m h.first.second) (rw e.unread at h.second)
            (late-children given names m room rest (omega arith)) nameless nothing;
        fresh = fresh-unknown names seen (leaves t) fresh;
      })
      may f

  -- behind a later child and blanks, `)`
  pub later_child_here :
      {u s rest : List ℕ} (room seen : ℕ) (t : Tree) → Fresh names seen (leaves t) → MayFollow given names most (ChildrenIn given names room seen) u
      → (f : Front (Then (NodeOf given names room t) Blanks) s rest) → MayFollow given names most NoneIn (u ++ f.bytes)
  unfolding next_label leaves_of
  later_child_here room seen t fresh may f =
      stand-before given names (ChildrenIn given names room seen) NoneIn (Then (NodeOf given names room t) Blanks) 41 [] refl
      (λ m s v rest l h e.
      record { forest = last t; derives = the_last (node_kept given names m h.first) (rw e.unread at h.second); fresh = fresh })
      may f

  -- behind the whole tree and blanks, `;`
  pub root_here :
      {s rest : List ℕ} (t : Tree) → NoneTwice (known names t) → (f : Front (Then (NodeOf given names most t) Blanks) s rest)
      → MayFollow given names most NoneIn f.bytes
  unfolding next_label
  root_here t once f =
      record {
        end = 59 ∷ [];
        some = omega arith;
        stops = refl;
        text = λ m l v e.
            let h = f.anywhere (59 ∷ []) in
            rw e.unread (record { tree = t; text = text (node_kept given names m h.first) h.second; once = once });
      }
