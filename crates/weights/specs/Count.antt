-- The count (01, "The count", with #101 and #106): lineages of a cluster, its weight, and the score of a species tree.
use Rattle.std.specs.Prelude.{ℕ, suc, ◌-◌, Bool, true, false, not, ◌&&◌, ◌||◌, List, map, length, eqb}
use Rattle.clusters.specs.Sets.{within}
use Rattle.trees.specs.Lists.{keep, some, total, up_to}
use Rattle.trees.specs.Records.{listed, largest}
use Rattle.trees.specs.Valid.{every, among}
use Rattle.trees.specs.Drawn.{maximal, children}
use Rattle.weights.specs.declared.Rooting.{Rooting}
use Rattle.weights.specs.declared.Rooting.TheVariants.{Rooted, Unrooted}

-- the complement of x, which lies within it, in the whole set s
abbrev pub complement : ℕ → ℕ → ℕ
complement s x = s - x

-- x is a cluster of the gene record without a root: one of "those of its record and the complement of each but the whole" (#106)
unfoldable pub unrooted_has : List ℕ → ℕ → Bool
unrooted_has g x = among x (listed g) || some (λ y. not (eqb y (largest g)) && eqb x (complement (largest g) y)) (listed g)

-- these clusters, each once, in rising order
unfoldable pub unrooted_clusters : List ℕ → List ℕ
unfolding unrooted_has
unrooted_clusters g = keep (λ x. unrooted_has g x) (up_to (suc (largest g)))

-- the clusters that a gene record shows: its own, or those without a root
abbrev pub shown_by : Rooting → List ℕ → List ℕ
shown_by Rooted g = listed g
shown_by Unrooted g = unrooted_clusters g

-- "clusters of g that lie within A and are not properly within another cluster of g that lies within A"
unfoldable pub maximal_within : List ℕ → ℕ → List ℕ
maximal_within cs a = maximal (keep (λ x. within x a) cs)

-- 01's count, for which an unresolved node is as drawn: "k is the number of" these clusters
unfoldable pub k_drawn : List ℕ → ℕ → ℕ
unfolding maximal_within
k_drawn cs a = length (maximal_within cs a)

-- one where the test holds, else another number
abbrev pub one_or : Bool → ℕ → ℕ
one_or true other = 1
one_or false other = other

-- whether p has "at least one child whose cluster is maximal within A" (#101)
unfoldable pub holds_maximal : List ℕ → ℕ → ℕ → Bool
unfolding maximal_within
holds_maximal cs a p = some (λ x. among x (maximal_within cs a)) (children cs p)

-- k: "count the gene tree's nodes with at least one child whose cluster is maximal within A, or one where A holds all its species" (#101)
unfoldable pub k_of : List ℕ → ℕ → ℕ
unfolding holds_maximal
k_of cs a = one_or (every (λ x. within x a) cs) (length (keep (λ p. holds_maximal cs a p) cs))

-- k of a gene record: #101's count; without a root "counts the maximal ones as before; for the whole set, one" (#106)
abbrev pub k_by : Rooting → List ℕ → ℕ → ℕ
k_by Rooted g a = k_of (listed g) a
k_by Unrooted g a = one_or (eqb a (largest g)) (k_drawn (unrooted_clusters g) a)

-- the extra lineages of A in one gene tree: "k - 1", which ends at 0: "A gene tree with no cluster within A adds nothing to A's weight" (#104)
unfoldable pub extra : Rooting → List ℕ → ℕ → ℕ
extra rooting g a = k_by rooting g a - 1

-- "The weight of A is the sum over all gene trees of k - 1", and of 0 for those with no cluster within A (#104)
unfoldable pub weight : Rooting → List (List ℕ) → ℕ → ℕ
unfolding total
weight rooting genes a = total (map (λ g. extra rooting g a) genes)

-- "The score of a species tree is the sum of the weights of all its clusters"
unfoldable pub score : Rooting → List (List ℕ) → List ℕ → ℕ
unfolding total
score rooting genes species = total (map (λ a. weight rooting genes a) (listed species))
