-- The replies of the code's tests are the tests of the promises.
use Prim.Native.Nat.{ℕ, ◌-◌, ◌^◌, ◌≤◌, ◌<◌}
use mathlib.Core.Path.{◌≡◌, sym, ap, ◌∙◌, subst}
use mathlib.Core.Bool.{Bool, true, false, not, ◌&&◌}
use mathlib.Core.List.{List}
use native.Mathlib.Decide.{dec_lt}
use native.Mathlib.Omega.{arith}
use lib.Dec.{leb, ltb}
use lib.Pow.{pow_mono}
use borrow.Author.Tests.{ltb-true, lt-ltb, le-ltb, le-leb, lt-leb}
use Rattle.clusters.specs.Sets.{whole}
use Rattle.trees.specs.Records.{Form, ValidOn, GeneValidFor, BinaryOn}
use Rattle.trees.specs.Valid.{valid, valid_gene_for, binary}
use Rattle.trees.specs.Decides.{Decides}
use Rattle.trees.proofs.Booleans.{both}
use Rattle.trees.proofs.ValidTest.{valid_decides, reply_is_test, valid-reply, binary-reply}
use Rattle.trees.proofs.GeneRecords.{gene_decides}
use Rattle.trees.proofs.Bounds.{whole_below_sixteen}

-- a reply that decides whether a record is valid is the test of it
pub valid-told : (b : Bool) {n all : ℕ} (g : List ℕ) → n ≤ 16 → all ≡ whole n → Decides b (ValidOn all g) → b ≡ valid (whole n) g
valid-told b {n} g small e d = valid-reply 16 b g (whole_below_sixteen n small) (subst (λ (s : ℕ). Decides b (ValidOn s g)) e d)

pub gene-told : (b : Bool) {breadth n : ℕ} (g : List ℕ) → n ≤ breadth → Decides b (GeneValidFor breadth n g) → b ≡ valid_gene_for breadth n g
gene-told b g few d = reply_is_test b (gene_decides g few) d

-- and whether a record is at fault, the opposite of it
pub fault-told : (b : Bool) (n : ℕ) (g : List ℕ) → n ≤ 16 → Decides b (GeneValidFor 16 n g) → not b ≡ not (valid_gene_for 16 n g)
fault-told b n g few d = ap not (gene-told b g few d)

pub binary-told : (b : Bool) (n : ℕ) {all : ℕ} (g : List ℕ) → all ≡ whole n → Decides b (BinaryOn all g) → b ≡ binary (whole n) g
binary-told b n g e d = binary-reply b (whole n) g (subst (λ (s : ℕ). Decides b (BinaryOn s g)) e d)

-- a number is a cluster exactly when it is at least 1 and at most the whole set
pub no_cluster : (n a : ℕ) → a < 1 → false ≡ (leb 1 a && ltb a (2 ^ n))
no_cluster n a l = rw (lt-leb 1 a l)

pub cluster-told : (n a : ℕ) → 1 ≤ a → leb a (whole n) ≡ (leb 1 a && ltb a (2 ^ n))
unfolding whole
cluster-told n a one = rw (le-leb 1 a one) (go (dec_lt a (2 ^ n)))
  where
    go : Dec (a < 2 ^ n) → leb a (2 ^ n - 1) ≡ ltb a (2 ^ n)
    go (yes h) = le-leb a (2 ^ n - 1) (omega arith) ∙ sym (lt-ltb a (2 ^ n) h)
    go (no h) = lt-leb a (2 ^ n - 1) (omega arith) ∙ sym (le-ltb a (2 ^ n) (omega arith))

pub cluster-small : (n a : ℕ) → n ≤ 16 → (leb 1 a && ltb a (2 ^ n)) ≡ true → a < 65536
cluster-small n a small e = omega (arith, ltb-true a (2 ^ n) (both (leb 1 a) (ltb a (2 ^ n)) e).1, pow_mono {i = n} {j = 16} small)

-- a species record that was checked has the form of one
pub species-form : (n : ℕ) (species : List ℕ) → n ≤ 16 → (valid (whole n) species && binary (whole n) species) ≡ true → Form species
species-form n species small e =
    ((valid_decides species (whole_below_sixteen n small)).holds (both (valid (whole n) species) (binary (whole n) species) e).0).form
