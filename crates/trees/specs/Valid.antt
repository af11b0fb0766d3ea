-- The test for a valid record, as a computation; `valid_decides` shows that it says whether `ValidFor` holds.
use Rattle.std.specs.Prelude.{ℕ, zero, suc, ◌+◌, ◌-◌, ◌*◌, ◌^◌, Bool, true, ◌&&◌, ◌||◌, not, List, [], ◌∷◌, length, drop, eqb, leb, ltb}
use Rattle.clusters.specs.Sets.{has, within, apart, single, size}
use Rattle.trees.specs.Lists.{some}
use Rattle.trees.specs.Records.{count, listed, largest}

-- every number of the list passes the test
unfoldable pub every : (ℕ → Bool) → List ℕ → Bool
every test [] = true
every test (x ∷ l) = test x && every test l

-- x stands in the list
unfoldable pub among : ℕ → List ℕ → Bool
among x l = some (λ y. eqb x y) l

-- each is below the next
abbrev pub below_first : ℕ → List ℕ → Bool
below_first x [] = true
below_first x (y ∷ l) = ltb x y

-- each is below the next, all along the list
unfoldable pub rising : List ℕ → Bool
rising [] = true
rising (x ∷ l) = below_first x l && rising l

-- every single species of s, of those from i on, is in the list; n is how many are looked at
unfoldable pub singles_from : ℕ → ℕ → ℕ → List ℕ → Bool
singles_from zero i s l = true
singles_from (suc n) i s l = (not (has s i) || among (single i) l) && singles_from n (suc i) s l

-- "any two are disjoint or one holds the other"
unfoldable pub nested : List ℕ → Bool
nested l = every (λ a. every (λ b. apart a b || within a b || within b a) l) l

-- 01's sentence, clause by clause, of a record of breadth b
unfoldable pub valid_for : ℕ → ℕ → List ℕ → Bool
valid_for b s r =
    eqb (length r) (2 * b) && leb (count r) (2 * b - 1) && rising (listed r) && every (λ x. eqb x 0) (drop (1 + count r) r) && singles_from b 0 s (listed r)
    && among s (listed r)
    && every (λ a. leb 1 a && within a s) (listed r)
    && nested (listed r)

-- the same of 01's records
abbrev pub valid : ℕ → List ℕ → Bool
valid s r = valid_for 16 s r

-- the test of a gene record: 01's clauses on its largest cluster, which is a cluster of n species (#104)
unfoldable pub valid_gene_for : ℕ → ℕ → List ℕ → Bool
unfolding valid_for
valid_gene_for b n r = leb 1 (largest r) && ltb (largest r) (2 ^ n) && valid_for b (largest r) r

-- the same of 01's records
abbrev pub valid_gene : ℕ → List ℕ → Bool
valid_gene n r = valid_gene_for 16 n r

-- "m = 2n - 1 exactly when the tree is binary"
unfoldable pub binary : ℕ → List ℕ → Bool
binary s r = eqb (count r + 1) (2 * size s)
