-- Behind a node that a text draws, the count is not right exactly where it is missing, fractional or wrong, or a second number follows it (#114).
use Prim.Native.Nat.{ℕ, ◌<◌}
use native.Mathlib.Omega.{arith}
use mathlib.Core.Path.{◌≡◌, refl, sym, ap, ◌∙◌}
use mathlib.Core.Logic.{◌⊎◌, inl, inr}
use mathlib.Core.Bool.{Bool, true, false, false≢true}
use Rattle.std.proofs.Common.{Some}
use mathlib.Core.List.{List, [], ◌∷◌, ◌++◌, append-nil, Memᴰ}
use lib.ListN.{length}
use borrow.Author.Tests.{lt-ltb, eq-eqb}
use Rattle.labels.specs.Bytes.{is_digit, run}
use Rattle.labels.specs.Spelling.{Run}
use Rattle.labels.proofs.LabelFronts.{run-front}
use Rattle.labels.proofs.RunRules.{run_some, run-splits, run-exact}
use Rattle.trees.specs.Tree.{Tree, Behind}
use Rattle.trees.specs.Thinned.{all_nodes}
use Rattle.tokens.specs.Values.{written}
use Rattle.nodes.specs.Grammar.{Rules, strict, Number, ColonNumber, Numbers, Text}
use Rattle.nodes.specs.Grammar.Number.{whole, decimal}
use Rattle.nodes.specs.Grammar.ColonNumber.{colon}
use Rattle.nodes.specs.Grammar.Numbers.{nothing, distance, both, support}
use Rattle.nodes.specs.Worth.{behind_of}
use Rattle.nodes.proofs.DrawnValues.{drawn-fits}
use Rattle.branches.specs.Ends.{is_count, count_in}
use Rattle.branches.proofs.Counts.{some_none, counted_as_lem, point_no_count}
use Rattle.branches.proofs.EndWays.{second_none}
use Rattle.counts.specs.Passes.{Fault}
use Rattle.counts.specs.Passes.Fault.{missing, fractional, second, wrong}
use Rattle.counts.proofs.FirstWrong.{some_is}

-- ---- what may be written as d: nothing, digits, or digits, a point and digits

abbrev Written : List ℕ → Type 0
Written d = (d ≡ []) ⊎ ((is_count d ≡ true) ⊎ ((v w : List ℕ) × (d ≡ v ++ 46 ∷ w)))

digits-count : {w s rest : List ℕ} → Run is_digit w s rest → is_count w ≡ true
unfolding is_count run
digits-count {w} r =
    let alone = (run-front r).anywhere [] in
    let all : run is_digit (w ++ []) ≡ length w = rw (run-splits alone) at (run-exact alone refl) in
    rw (lt-ltb 0 (length w) (run_some r), eq-eqb (run is_digit w) (length w) (rw (append-nil w) at all))

number-written : {w s rest : List ℕ} → Number w s rest → Written w
number-written (whole r) = inr (inl (digits-count r))
number-written (decimal {v = v} {w = w} r u) = inr (inr (v, w, refl))

colon-written : {Takes : List ℕ → List ℕ → List ℕ → Type 0} {w s rest : List ℕ} → ColonNumber Takes w s rest → Written w
colon-written (colon gap blanks number taken) = number-written number

numbers-written : {R : Rules} {d b s rest : List ℕ} → Numbers R d b s rest → Written d
numbers-written nothing = inl refl
numbers-written (distance d) = colon-written d
numbers-written (both d b) = colon-written d
numbers-written (support blanks b) = inl refl

-- so it is behind each node of a tree that a text draws
drawn-written :
    (names : List (List ℕ)) {k : ℕ} {s : List ℕ} {t : Tree} {rest : List ℕ} → Text (strict false names) k s t rest
    → (u : Tree) → Memᴰ u (all_nodes t) → Written (behind_of u).distance
drawn-written names d = drawn-fits false names (λ b. Written b.distance) (λ w d b s rest behind. numbers-written behind) d

-- ---- faults

pub fault-wrong : (w : ℕ) (b : Behind) → Fault w b → count_in b ≡ Some w → ⊥
unfolding count_in is_count
fault-wrong w b (missing e) is = some_none (sym is ∙ rw e)
fault-wrong w b (fractional v d e) is = some_none (sym is ∙ rw (e, point_no_count v d))
fault-wrong w b (second first more) is = some_none (sym is ∙ second_none (is_count b.distance) b.distance b.support more)
fault-wrong w b (wrong other differs) is = differs (some_is (sym other ∙ is))

-- digits alone, and no second number, are a count
alone : (b : Behind) → is_count b.distance ≡ true → b.support ≡ [] → count_in b ≡ Some (written b.distance)
unfolding count_in
alone b is no_second = rw (is, no_second)

wrong-fault : (w : ℕ) (b : Behind) → Written b.distance → (count_in b ≡ Some w → ⊥) → Fault w b
wrong-fault w b (inl e) f = missing e
wrong-fault w b (inr (inr point)) f = fractional point.0 point.1 point.2
wrong-fault w b (inr (inl is)) f = go b.support refl
  where
    go : (l : List ℕ) → b.support ≡ l → Fault w b
    go [] e = let count = alone b is e in wrong count (λ same. f (count ∙ ap (λ (n : ℕ). Some n) same))
    go (x ∷ l) e = second is (rw e (omega arith))

pub drawn-fault :
    (names : List (List ℕ)) {k : ℕ} {s : List ℕ} {t : Tree} {rest : List ℕ} → Text (strict false names) k s t rest
    → (u : Tree) → Memᴰ u (all_nodes t) → (w : ℕ) → (count_in (behind_of u) ≡ Some w → ⊥) → Fault w (behind_of u)
drawn-fault names d u m w f = wrong-fault w (behind_of u) (drawn-written names d u m) f

-- ---- one fault alone

-- which of the four is found
abbrev pub which : {w : ℕ} {b : Behind} → Fault w b → ℕ
which (missing e) = 0
which (fractional v d e) = 1
which (second first more) = 2
which (wrong other differs) = 3

-- it is told by the first number, whether that is a count, and the second
abbrev kind_of : List ℕ → Bool → List ℕ → ℕ
kind_of [] counted b = 0
kind_of (x ∷ d) false b = 1
kind_of (x ∷ d) true [] = 3
kind_of (x ∷ d) true (y ∷ b) = 2

nothing_no_count : is_count [] ≡ true → ⊥
unfolding is_count
nothing_no_count is = false≢true is

point-kind : (v d b : List ℕ) → 1 ≡ kind_of (v ++ 46 ∷ d) (is_count (v ++ 46 ∷ d)) b
point-kind [] d b = rw (point_no_count [] d)
point-kind (x ∷ v) d b = rw (point_no_count (x ∷ v) d)

second-kind : (d b : List ℕ) → is_count d ≡ true → 0 < length b → 2 ≡ kind_of d (is_count d) b
second-kind [] b is more = absurd (nothing_no_count is)
second-kind (x ∷ d) [] is more = absurd (omega arith)
second-kind (x ∷ d) (y ∷ b) is more = rw is

count-kind : (d b : List ℕ) → is_count d ≡ true → b ≡ [] → 3 ≡ kind_of d (is_count d) b
count-kind [] b is none = absurd (nothing_no_count is)
count-kind (x ∷ d) b is none = rw (is, none)

kind-told : {w : ℕ} {b : Behind} (f : Fault w b) → which f ≡ kind_of b.distance (is_count b.distance) b.support
unfolding count_in
kind-told (missing e) = rw e
kind-told {b = b} (fractional v d e) = rw e (point-kind v d b.support)
kind-told {b = b} (second first more) = second-kind b.distance b.support first more
kind-told {b = b} (wrong other differs) =
    let c = counted_as_lem (is_count b.distance) b.distance b.support other in
    count-kind b.distance b.support c.0 c.1

-- so no two of them are found behind one node
pub one_kind : {w : ℕ} {b : Behind} (f g : Fault w b) → which f ≡ which g
one_kind f g = kind-told f ∙ sym (kind-told g)
