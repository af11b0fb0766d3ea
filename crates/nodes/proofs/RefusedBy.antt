-- The numbers by which reading refuses: a node by 3 to 8 and by 10, and by 18 where a threshold is given; a tree by 9 too.
use Prim.Native.Nat.{ℕ, zero, suc, ◌+◌, ◌-◌, ◌*◌, ◌≤◌, ◌<◌}
use mathlib.Core.Path.{◌≡◌, refl, sym, ◌∙◌}
use mathlib.Core.Bool.{Bool, true, false, ◌&&◌, true≢false, false≢true}
use mathlib.Core.Logic.{◌⊎◌, inl, inr}
use mathlib.Core.List.{List, [], ◌∷◌, tail}
use native.Mathlib.Omega.{arith}
use lib.ListN.{length, take, drop}
use lib.Dec.{leb, ltb}
use Rattle.clusters.specs.Sets.{single, union, apart, within}
use Rattle.clusters.proofs.Sets.{true-within, zero-within}
use Rattle.faults.specs.Faults.{number as fault_number}
use Rattle.faults.specs.declared.Fault.{Fault}
use Rattle.labels.specs.Bytes.{is_digit, run, next_is, next_label}
use Rattle.labels.specs.Labels.{Told, told}
use Rattle.labels.specs.Labels.Told.{ended as ends_at, faulty}
use Rattle.labels.proofs.FaultyLabels.{AtFault, told-fault}
use Rattle.labels.proofs.FaultyLabels.AtFault.{long, stray, empty, unclosed}
use Rattle.trees.specs.Tree.{Tree, Forest, Behind, cluster}
use Rattle.trees.specs.Tree.Tree.{leaf, node}
use Rattle.trees.specs.Tree.Forest.{more}
use Rattle.roster.specs.Roster.{position}
use Rattle.tokens.specs.Answers.{Answer, and_then, unexpected}
use Rattle.tokens.specs.Answers.Answer.{parsed, refused}
use Rattle.tokens.specs.Tokens.{number_bytes, blanks, skip, limited, numeral, pointed, fraction, digits, number, number_behind}
use Rattle.tokens.specs.Tokens.{second_number, first_number, numbers_by, numbers, name_by, name, inner_name_by, inner_name}
use Rattle.tokens.specs.Values.{too_fine}
use Rattle.tokens.specs.Supports.{refuses_fine, unless_fine, supported}
use Rattle.nodes.specs.Reading.{leaf_new, leaf_known, leaf_at, closing, after_first, opened, node_by, after_child, read_node, read_forest, complete, ended, read_tree, closing_by, leaf_by, read_forest_by, read_node_by, read_tree_by, read_tree_to_by}
use Rattle.nodes.proofs.Answers.{parsed-refused, Reached, and_then-refused}
use Rattle.nodes.proofs.Rests.{Reader, AllAdvance, advances_shorter, read_node_advances}
use Rattle.nodes.proofs.Fuel.{skip_shorter, tail_shorter}

-- the numbers of a node's faults; 18 where a threshold is given (#113)
abbrev pub OfNode : Bool → ℕ → Type 0
OfNode given n = (3 ≤ n) × ((n ≡ 18 → ⊥) → n ≤ 10) × (n ≡ 9 → ⊥) × (n ≡ 18 → given ≡ true)

-- one of 01's
usual : (given : Bool) (n : ℕ) → 3 ≤ n → n ≤ 10 → (n ≡ 9 → ⊥) → OfNode given n
usual given n low high no_nine = (low, λ z. high, no_nine, λ e. absurd (omega arith))

-- every refusal is by one of them
abbrev pub Numbered : (given : Bool) {A : Type 0} → Answer A → Type 0
Numbered given a = (n q : ℕ) → a ≡ refused n q → OfNode given n

by_parsed : (given : Bool) {A : Type 0} {x : A} {s : List ℕ} {p : ℕ} → Numbered given (parsed x s p)
by_parsed given n q e = absurd (parsed-refused e)

by_number : (given : Bool) {A : Type 0} (number place : ℕ) → OfNode given number → Numbered given {A = A} (refused number place)
by_number given number place of n q e = let f : number ≡ n = cc in rw (← f) of

by_unexpected : (given : Bool) {A : Type 0} (s : List ℕ) (p : ℕ) → Numbered given {A = A} (unexpected s p)
by_unexpected given [] p = by_number given 10 p (usual given 10 (omega arith) (omega arith) (λ e. omega arith))
by_unexpected given (b ∷ s) p = by_number given 3 p (usual given 3 (omega arith) (omega arith) (λ e. omega arith))

by_then : (given : Bool) {A B : Type 0} (a : Answer A) (f : A → List ℕ → ℕ → Answer B) → Numbered given a
    → ((x : A) (s : List ℕ) (p : ℕ) → a ≡ parsed x s p → Numbered given (f x s p)) → Numbered given (and_then a f)
by_then given (parsed x s p) f first next n q e = next x s p refl n q e
by_then given (refused m p) f first next n q e = first n q (cc)

-- ---- tokens

by_limited : (given : Bool) {A : Type 0} (t : Bool) (p : ℕ) (a : Answer A) → Numbered given a → Numbered given (limited t p a)
by_limited given true p a h = h
by_limited given false p a h = by_number given 4 (p + number_bytes) (usual given 4 (omega arith) (omega arith) (λ e. omega arith))

numeral-numbered : (given : Bool) (c : ℕ) (s : List ℕ) (p : ℕ) → Numbered given (numeral c s p)
numeral-numbered given c s p = by_limited given (leb c number_bytes) p (parsed (take c s) (drop c s) (p + c)) (by_parsed given)

pointed-numbered : (given : Bool) (d e : ℕ) (s : List ℕ) (p : ℕ) → Numbered given (pointed d e s p)
pointed-numbered given d zero s p =
    by_limited given (leb (d + 1) number_bytes) p (unexpected (drop (d + 1) s) (p + (d + 1))) (by_unexpected given (drop (d + 1) s) (p + (d + 1)))
pointed-numbered given d (suc e) s p = numeral-numbered given (d + 1 + suc e) s p

fraction-numbered : (given : Bool) (t : Bool) (d : ℕ) (s : List ℕ) (p : ℕ) → Numbered given (fraction t d s p)
fraction-numbered given true d s p = pointed-numbered given d (run is_digit (drop (d + 1) s)) s p
fraction-numbered given false d s p = numeral-numbered given d s p

digits-numbered : (given : Bool) (d : ℕ) (s : List ℕ) (p : ℕ) → Numbered given (digits d s p)
digits-numbered given zero s p = by_unexpected given s p
digits-numbered given (suc d) s p = fraction-numbered given (next_is 46 (drop (suc d) s)) (suc d) s p

number_behind-numbered : (given : Bool) (s : List ℕ) (p : ℕ) → Numbered given (number_behind s p)
unfolding number_behind number
number_behind-numbered given s p = digits-numbered given (run is_digit (skip s)) (skip s) (p + blanks s)

-- a number, and what is made of it
made-numbered : (given : Bool) (f : List ℕ → Behind) (s : List ℕ) (p : ℕ) → Numbered given (and_then (number_behind s p) (λ b s p. parsed (f b) s p))
made-numbered given f s p = by_then given (number_behind s p) (λ b s p. parsed (f b) s p) (number_behind-numbered given s p) (λ b s p is. by_parsed given)

second_number-numbered : (given : Bool) (t : Bool) (w d s : List ℕ) (p : ℕ) → Numbered given (second_number t w d s p)
second_number-numbered given false w d s p = by_parsed given
second_number-numbered given true w d s p = made-numbered given (λ b. record { name = w; distance = d; support = b }) (tail (skip s)) (p + blanks s + 1)

first_number-numbered : (given : Bool) (t : Bool) (w s : List ℕ) (p : ℕ) → Numbered given (first_number t w s p)
first_number-numbered given true w s p = made-numbered given (λ b. record { name = w; distance = []; support = b }) (tail (skip s)) (p + blanks s + 1)
first_number-numbered given false w s p =
    by_then given (number_behind s p) (λ d s p. second_number (next_is 58 (skip s)) w d s p) (number_behind-numbered given s p)
    (λ d s p is. second_number-numbered given (next_is 58 (skip s)) w d s p)

numbers_by-numbered : (given : Bool) (t : Bool) (w s : List ℕ) (p : ℕ) → Numbered given (numbers_by t w s p)
numbers_by-numbered given false w s p = by_parsed given
numbers_by-numbered given true w s p = first_number-numbered given (next_is 58 (skip (tail (skip s)))) w (tail (skip s)) (p + blanks s + 1)

numbers-numbered : (given : Bool) (w s : List ℕ) (p : ℕ) → Numbered given (numbers w s p)
unfolding numbers
numbers-numbered given w s p = numbers_by-numbered given (next_is 58 (skip s)) w s p

-- the faults of a label are 3, 4 and 10
fault-numbered : (given : Bool) (s : List ℕ) {fault : Fault} {d : ℕ} → AtFault s fault d → OfNode given (fault_number fault)
fault-numbered given s (long l) = (usual given _ (omega arith) (omega arith) (λ e. omega arith))
fault-numbered given s (stray w b rest split all short non) = (usual given _ (omega arith) (omega arith) (λ e. omega arith))
fault-numbered given s (empty rest split over) = (usual given _ (omega arith) (omega arith) (λ e. omega arith))
fault-numbered given s (unclosed w split all short) = (usual given _ (omega arith) (omega arith) (λ e. omega arith))

name-numbered : (given : Bool) (s : List ℕ) (p : ℕ) → Numbered given (name s p)
unfolding name
name-numbered given s p = go (told s) refl
  where
    go : (t : Told) → told s ≡ t → Numbered given (name_by t s p)
    go (ends_at n) is = by_parsed given
    go (faulty fault d) is = by_number given (fault_number fault) (p + d) (fault-numbered given s (told-fault s fault d is))

inner_name-numbered : (given : Bool) (s : List ℕ) (p : ℕ) → Numbered given (inner_name s p)
unfolding inner_name
inner_name-numbered given s p = go (next_label (skip s))
  where
    go : (t : Bool) → Numbered given (inner_name_by t s p)
    go false = by_parsed given
    go true = name-numbered given (skip s) (p + blanks s)

-- a support too fine is refused by 18, where a threshold is given
fine-numbered : (given : Bool) (t : Bool) (b : Behind) (s : List ℕ) (p : ℕ) → refuses_fine given b.support ≡ t → Numbered given (unless_fine t b s p)
fine-numbered given true b s p is =
    by_number given 18 (p - length b.support) (omega arith, λ z. absurd (z refl), λ e. omega arith, λ e. both_true given (too_fine b.support) is)
  where
    both_true : (x y : Bool) → x && y ≡ true → x ≡ true
    both_true true y e = refl
    both_true false y e = e
fine-numbered given false b s p is = by_parsed given

supported-numbered : (given : Bool) (w s : List ℕ) (p : ℕ) → Numbered given (supported given w s p)
unfolding supported
supported-numbered given w s p =
    by_then given (numbers w s p) (λ b s p. unless_fine (refuses_fine given b.support) b s p) (numbers-numbered given w s p)
    (λ b s p is. fine-numbered given (refuses_fine given b.support) b s p refl)

-- ---- nodes

closing-numbered : (given : Bool) (t : Tree) (f : Forest) (s : List ℕ) (p : ℕ) → Numbered given (closing given t f s p)
unfolding closing_by
closing-numbered given t f s p =
    by_then given (inner_name s p) (λ w s p. and_then (supported given w s p) (λ b s p. parsed (node t f b) s p)) (inner_name-numbered given s p)
    (λ w s p is. by_then given (supported given w s p) (λ b s p. parsed (node t f b) s p) (supported-numbered given w s p) (λ b s p is. by_parsed given))

leaf_new-numbered : (given : Bool) (t : Bool) (i begun : ℕ) (s : List ℕ) (p : ℕ) → Numbered given (leaf_new given t i begun s p)
leaf_new-numbered given false i begun s p = by_number given 6 begun (usual given 6 (omega arith) (omega arith) (λ e. omega arith))
leaf_new-numbered given true i begun s p = by_then given (supported given [] s p) (λ b s p. parsed (leaf i b) s p) (supported-numbered given [] s p) (λ b s p is. by_parsed given)

leaf_known-numbered : (given : Bool) (t : Bool) (i seen begun : ℕ) (s : List ℕ) (p : ℕ) → Numbered given (leaf_known given t i seen begun s p)
leaf_known-numbered given false i seen begun s p = by_number given 5 begun (usual given 5 (omega arith) (omega arith) (λ e. omega arith))
leaf_known-numbered given true i seen begun s p = leaf_new-numbered given (apart (single i) seen) i begun s p

leaf_at-numbered : (given : Bool) (names : List (List ℕ)) (seen : ℕ) (s : List ℕ) (p : ℕ) → Numbered given (leaf_at given names seen s p)
unfolding leaf_by
leaf_at-numbered given names seen s p =
    by_then given (name s p) (λ w rest q. leaf_known given (ltb (position w names) (length names)) (position w names) seen p rest q) (name-numbered given s p)
    (λ w rest q is. leaf_known-numbered given (ltb (position w names) (length names)) (position w names) seen p rest q)

-- pieces of reading that refuse so, from every set of species and place, on texts of fewer than m bytes
abbrev Some : (given : Bool) {A : Type 0} → ℕ → (ℕ → List ℕ → ℕ → Answer A) → Type 0
Some given m read = (e : ℕ) (s : List ℕ) (p : ℕ) → length s < m → Numbered given (read e s p)

after_first-numbered :
    (given : Bool) (m : ℕ) (t u : Bool) (others : Reader Forest) (seen : ℕ) (c : Tree) (s : List ℕ) (p : ℕ) → Some given m others → length s ≤ m → next_is 44 s ≡ t
    → Numbered given (after_first given t u others seen c s p)
after_first-numbered given m true u others seen c s p on l is =
    by_then given (others (union seen (cluster c)) (tail s) (p + 1)) (λ f s p. closing given c f s p)
    (on (union seen (cluster c)) (tail s) (p + 1) (omega (arith, tail_shorter 44 s is))) (λ f s p is. closing-numbered given c f s p)
after_first-numbered given m false true others seen c s p on l is = by_number given 7 p (usual given 7 (omega arith) (omega arith) (λ e. omega arith))
after_first-numbered given m false false others seen c s p on l is = by_unexpected given s p

opened-numbered :
    (given : Bool) (first : ℕ → Reader Tree) (others : ℕ → Reader Forest) (room seen : ℕ) (s : List ℕ) (p : ℕ)
    → ((r : ℕ) → AllAdvance (first r)) → ((r : ℕ) → Some given (length s) (first r)) → ((r : ℕ) → Some given (length s) (others r)) → next_is 40 s ≡ true
    → Numbered given (opened given first others room seen s p)
opened-numbered given first others zero seen s p moves one on is = by_number given 8 p (usual given 8 (omega arith) (omega arith) (λ e. omega arith))
opened-numbered given first others (suc room) seen s p moves one on is =
    let l = tail_shorter 40 s is in
    by_then given (first room seen (tail s) (p + 1))
    (λ t s p. after_first given (next_is 44 (skip s)) (next_is 41 (skip s)) (λ e s p. others room e s p) seen t (skip s) (p + blanks s))
    (one room seen (tail s) (p + 1) l)
    (λ t m q h.
    let k = advances_shorter (moves room seen (tail s) (p + 1) t m q h) in
    after_first-numbered given (length s) (next_is 44 (skip m)) (next_is 41 (skip m)) (λ e s p. others room e s p) seen t (skip m) (q + blanks m) (on room)
    (omega (arith, skip_shorter m)) refl)

node_by-numbered :
    (given : Bool) (t u : Bool) (names : List (List ℕ)) (first : ℕ → Reader Tree) (others : ℕ → Reader Forest) (room seen : ℕ) (s : List ℕ) (p : ℕ)
    → ((r : ℕ) → AllAdvance (first r)) → ((r : ℕ) → Some given (length s) (first r)) → ((r : ℕ) → Some given (length s) (others r)) → next_is 40 s ≡ u
    → Numbered given (node_by given t u names first others room seen s p)
node_by-numbered given true u names first others room seen s p moves one on is = leaf_at-numbered given names seen s p
node_by-numbered given false true names first others room seen s p moves one on is = opened-numbered given first others room seen s p moves one on is
node_by-numbered given false false names first others room seen s p moves one on is = by_unexpected given s p

after_child-numbered :
    (given : Bool) (m : ℕ) (t u : Bool) (others : Reader Forest) (seen : ℕ) (c : Tree) (s : List ℕ) (p : ℕ) → Some given m others → length s ≤ m → next_is 44 s ≡ t
    → Numbered given (after_child t u others seen c s p)
after_child-numbered given m true u others seen c s p on l is =
    by_then given (others (union seen (cluster c)) (tail s) (p + 1)) (λ f s p. parsed (more c f) s p)
    (on (union seen (cluster c)) (tail s) (p + 1) (omega (arith, tail_shorter 44 s is))) (λ f s p is. by_parsed given)
after_child-numbered given m false true others seen c s p on l is = by_parsed given
after_child-numbered given m false false others seen c s p on l is = by_unexpected given s p

mutual
  unfolding read_node_by read_forest_by

  pub read_node-numbered :
      (given : Bool) (k : ℕ) (names : List (List ℕ)) (room seen : ℕ) (s : List ℕ) (p : ℕ) → 2 * length s < k → Numbered given (read_node given k names room seen s p)
  read_node-numbered given zero names room seen s p l = absurd (omega arith)
  read_node-numbered given (suc k) names room seen s p l =
      node_by-numbered given (next_label (skip s)) (next_is 40 (skip s)) names (λ r e s p. read_node given k names r e s p) (λ r e s p. read_forest given k names r e s p) room
      seen
      (skip s)
      (p + blanks s)
      (λ r e s p x rest q h. read_node_advances given k names r e s p x rest q h)
      (λ r e m q d. read_node-numbered given k names r e m q (omega (arith, skip_shorter s)))
      (λ r e m q d. read_forest-numbered given k names r e m q (omega (arith, skip_shorter s)))
      refl

  pub read_forest-numbered :
      (given : Bool) (k : ℕ) (names : List (List ℕ)) (room seen : ℕ) (s : List ℕ) (p : ℕ) → 2 * length s + 1 < k → Numbered given (read_forest given k names room seen s p)
  read_forest-numbered given zero names room seen s p l = absurd (omega arith)
  read_forest-numbered given (suc k) names room seen s p l =
      by_then given (read_node given k names room seen s p)
      (λ t s p. after_child (next_is 44 (skip s)) (next_is 41 (skip s)) (λ e s p. read_forest given k names room e s p) seen t (skip s) (p + blanks s))
      (read_node-numbered given k names room seen s p (omega arith))
      (λ t m q h.
      let d = advances_shorter (read_node_advances given k names room seen s p t m q h) in
      after_child-numbered given (length s) (next_is 44 (skip m)) (next_is 41 (skip m)) (λ e s p. read_forest given k names room e s p) seen t (skip m) (q + blanks m)
      (λ e r z d. read_forest-numbered given k names room e r z (omega arith)) (omega (arith, skip_shorter m)) refl)

-- ---- the tree

-- behind the root, by whether the needed species are there
ended-numbered : (b : Bool) (needed : ℕ) (t : Tree) (s : List ℕ) (p : ℕ) (n q : ℕ) → ended b needed t s p ≡ refused n q
    → (3 ≤ n) × (n ≤ 10) × (n ≡ 9 → within needed (cluster t) ≡ false)
ended-numbered true needed t s p n q h = by (within needed (cluster t)) h
  where
    by : (b : Bool) → complete b t s p ≡ refused n q → (3 ≤ n) × (n ≤ 10) × (n ≡ 9 → b ≡ false)
    by true h = absurd (parsed-refused h)
    by false h = let e : 9 ≡ n = cc in (omega arith, omega arith, λ is. refl)
ended-numbered false needed t s p n q h =
    let of = by_unexpected false s p n q h in
    (of.0, of.1 (λ e. false≢true (of.3 e)), λ e. absurd (of.2 e))

-- by 3 to 10, and by 18 only where a threshold is given
abbrev pub OfTree : Bool → ℕ → Type 0
OfTree given n = (3 ≤ n) × ((n ≡ 18 → ⊥) → n ≤ 10) × (n ≡ 18 → given ≡ true)

-- so is a tree refused
pub tree-numbered : (given : Bool) (names : List (List ℕ)) (most needed : ℕ) (s : List ℕ) (p : ℕ) {n q : ℕ} → read_tree given names most needed s p ≡ refused n q → OfTree given n
unfolding read_tree_by read_tree_to_by
tree-numbered given names most needed s p {n} {q} h =
    let k = 2 * length s + 1 in
    by (and_then-refused (read_node given k names most 0 s p) (λ t s p. ended (next_is 59 (skip s)) needed t (skip s) (p + blanks s)) h)
  where
    by :
        (read_node given (2 * length s + 1) names most 0 s p ≡ refused n q)
        ⊎ Reached (read_node given (2 * length s + 1) names most 0 s p)
        (λ t s p. ended (next_is 59 (skip s)) needed t (skip s) (p + blanks s)) (refused n q) → OfTree given n
    by (inl e) = let of = read_node-numbered given (2 * length s + 1) names most 0 s p (omega arith) n q e in (of.0, of.1, of.3)
    by (inr r) = let of = ended-numbered (next_is 59 (skip r.left)) needed r.value (skip r.left) (r.place + blanks r.left) n q r.after in
        (of.0, λ z. of.1, λ e. absurd (omega (arith, of.1)))

-- and by 9 only where a needed species is missing in it: where none is needed, never
pub none_needed_never_nine : (given : Bool) (names : List (List ℕ)) (most : ℕ) (s : List ℕ) (p : ℕ) {q : ℕ} → read_tree given names most 0 s p ≡ refused 9 q → ⊥
unfolding read_tree_by read_tree_to_by
none_needed_never_nine given names most s p {q} h =
    by (and_then-refused (read_node given (2 * length s + 1) names most 0 s p) (λ t s p. ended (next_is 59 (skip s)) 0 t (skip s) (p + blanks s)) h)
  where
    by :
        (read_node given (2 * length s + 1) names most 0 s p ≡ refused 9 q)
        ⊎ Reached (read_node given (2 * length s + 1) names most 0 s p) (λ t s p. ended (next_is 59 (skip s)) 0 t (skip s) (p + blanks s)) (refused 9 q) → ⊥
    by (inl e) = (read_node-numbered given (2 * length s + 1) names most 0 s p (omega arith) 9 q e).2 refl
    by (inr r) =
        let of = ended-numbered (next_is 59 (skip r.left)) 0 r.value (skip r.left) (r.place + blanks r.left) 9 q r.after in
        true≢false (sym (true-within 0 (cluster r.value) (zero-within (cluster r.value))) ∙ of.2 refl)
