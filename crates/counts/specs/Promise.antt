-- What `check` and `write_counts` promise (#114).
use Rattle.std.specs.Prelude.{ℕ, ◌-◌, ◌*◌, ◌^◌, ◌≡◌, Bool, true, false, not, List, [], ◌∷◌, length, drop, eqb, Option, Some, None}
use Rattle.clusters.specs.Sets.{whole}
use Rattle.trees.specs.Tree.{Tree, clusters}
use Rattle.trees.specs.Records.{record_of, records_in}
use Rattle.trees.specs.Valid.{binary}
use Rattle.roster.specs.Roster.{names}
use Rattle.roster.specs.Verdict.{Test, Verdict, verdict, length_test, reply_of}
use Rattle.roster.specs.declared.Reply.{Reply}
use Rattle.tokens.specs.Answers.{Answer}
use Rattle.tokens.specs.Answers.Answer.{parsed, refused}
use Rattle.reader.specs.Promise.{answer_to}
use Rattle.reader.specs.declared.Kind.TheVariants.{Species}
use Rattle.branches.specs.Ends.{End, ends_from, count_in}
use Rattle.texts.specs.Writing.{count_note, written_with}
use Rattle.writer.specs.Promise.{roster_test, out_by}
use Rattle.weights.specs.Count.{weight, score}
use Rattle.weights.specs.declared.Rooting.TheVariants.{Rooted}
use Rattle.lineages.specs.Checks.{count_test, records_test, species_record_test}
use Rattle.terms.specs.Allowed.{every_cluster}
use Rattle.splits.specs.Least.{score_entry, split_entry}
use Rattle.splits.specs.Best.{best_for}
use Rattle.search.specs.Promise.{filled_by}

-- ---- the weights and the least score

-- what a count has to be: the weight of a cluster over the gene trees, which "are rooted"
abbrev pub weight_in : List ℕ → ℕ → ℕ → ℕ
weight_in genes count a = weight Rooted (records_in count genes) a

-- "the least one over all clusters" (#114)
unfoldable pub least_score : ℕ → List (List ℕ) → ℕ
least_score n genes = score_entry (weight Rooted genes) (best_for Rooted n genes (every_cluster n) (whole n))

-- "the distance of its score above the least one over all clusters" (#114)
unfoldable pub distance : ℕ → List (List ℕ) → Tree → ℕ
distance n genes t = score Rooted genes (record_of (clusters t)) - least_score n genes

-- ---- the counts of a drawn tree

-- "each number is the weight of that node's cluster" (#114); "a missing, fractional or wrong count or a second number" is not
abbrev pub is_right : ℕ → Option ℕ → Bool
is_right w (Some count) = eqb count w
is_right w None = false

-- the first of two places, where there is one
abbrev pub place_unless : Bool → ℕ → Option ℕ → Option ℕ
place_unless true place later = later
place_unless false place later = Some place

-- "of the first such node to end" (#114): the place of its end; the clusters and the ends are those of the nodes in the order in which they end
unfoldable pub first_wrong : (ℕ → ℕ) → List ℕ → List End → Option ℕ
first_wrong w [] ends = None
first_wrong w (a ∷ l) [] = None
first_wrong w (a ∷ l) (e ∷ ends) = place_unless (is_right (w a) (count_in e.behind)) e.place (first_wrong w l ends)

-- ---- check

-- 16, of a tree that is binary or not
abbrev pub tree_test : Bool → Test
tree_test two = record { fault = not two; number = 16; place = 0 }

-- "16 (the tree drawn is not binary)"
unfoldable pub drawn_test : ℕ → Tree → Test
drawn_test n t = tree_test (binary (whole n) (record_of (clusters t)))

-- "23 for a missing, fractional or wrong count or a second number" (#114)
abbrev pub counts_test : Option ℕ → Test
counts_test (Some place) = record { fault = true; number = 23; place = place }
counts_test None = record { fault = false; number = 23; place = 0 }

-- "after the reader's own, 11, 12, 16 and 15" (#114)
unfoldable pub check_tests : ℕ → List ℕ → ℕ → List ℕ → List ℕ → Tree → List End → List Test
unfolding first_wrong
check_tests n genes count scores splits t ends =
    count_test count ∷ length_test (length genes) (32 * count) ∷ length_test (length scores) (2 ^ n) ∷ length_test (length splits) (2 ^ n)
    ∷ drawn_test n t
    ∷ records_test n (records_in count genes)
    ∷ counts_test (first_wrong (weight_in genes count) (clusters t) ends)
    ∷ []

-- what is said of a text: the reader's refusal, or what the tests say of the tree that is drawn
unfoldable pub check_verdict : List ℕ → List ℕ → ℕ → List ℕ → ℕ → List ℕ → List ℕ → Answer Tree → Verdict
check_verdict line text start genes count scores splits (parsed t rest next) =
    verdict (check_tests (length (names line)) genes count scores splits t (ends_from (length (clusters t)) (drop start text) start))
check_verdict line text start genes count scores splits (refused number place) = record { number = number; place = place }

-- "With a yes goes the distance" (#114)
abbrev pub distance_of : ℕ → List (List ℕ) → Answer Tree → ℕ
distance_of n genes (parsed t rest next) = distance n genes t
distance_of n genes (refused number place) = 0

-- the promise of `check`: "Say yes exactly when .." (#114), which is number 0, with the distance; both tables filled as by the search over all clusters, on a refusal kept
pub record Checks (line text : List ℕ) (start : ℕ) (genes : List ℕ) (count : ℕ) (scores splits : List ℕ) (r : Reply) (scores_after splits_after : List ℕ) : Type 0 where
  pub reply :
      r ≡ reply_of (check_verdict line text start genes count scores splits (answer_to Species None line text start))
      (distance_of (length (names line)) (records_in count genes) (answer_to Species None line text start))
  pub score_table :
      scores_after ≡ filled_by (check_verdict line text start genes count scores splits (answer_to Species None line text start)).number (length (names line))
      (λ a. score_entry (weight Rooted (records_in count genes)) (best_for Rooted (length (names line)) (records_in count genes) (every_cluster (length (names line))) a))
      scores
  pub split_table :
      splits_after ≡ filled_by (check_verdict line text start genes count scores splits (answer_to Species None line text start)).number (length (names line))
      (λ a. split_entry (best_for Rooted (length (names line)) (records_in count genes) (every_cluster (length (names line))) a))
      splits

-- ---- write_counts

-- "Our writer gets a form with these counts" (#114): behind each node `:` and the weight of its cluster
unfoldable pub counts_text : List (List ℕ) → List ℕ → ℕ → List ℕ → List ℕ
counts_text ns genes count species = written_with (count_note (weight_in genes count)) ns species

-- "1, 11, 12 (genes), 16, 15, 12 (the text)": "12 for its text comes last" (#114)
unfoldable pub write_counts_tests : List ℕ → List ℕ → ℕ → List ℕ → List ℕ → List Test
write_counts_tests line genes count species out =
    roster_test line ∷ count_test count ∷ length_test (length genes) (32 * count)
    ∷ species_record_test (length (names line)) species
    ∷ records_test (length (names line)) (records_in count genes)
    ∷ length_test (length out) (length (counts_text (names line) genes count species))
    ∷ []

-- the promise of `write_counts`: its reply with the text's length, and what stands in the lent bytes then
pub record WritesCounts (line genes : List ℕ) (count : ℕ) (species out : List ℕ) (reply : Reply) (after : List ℕ) : Type 0 where
  pub answer : reply ≡ reply_of (verdict (write_counts_tests line genes count species out)) (length (counts_text (names line) genes count species))
  pub bytes : after ≡ out_by (verdict (write_counts_tests line genes count species out)).number (counts_text (names line) genes count species) out
