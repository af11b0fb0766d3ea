-- Which texts are to be read: those that draw, by the grammar and within the limits, a tree with each of its species once, whose species are those that a tree of the kind may have.
use Rattle.std.specs.Prelude.{ℕ, ◌≤◌, ◌<◌, ◌≡◌, false, List, length, drop, None}
use Rattle.clusters.specs.Sets.{whole}
use Rattle.trees.specs.Lists.{NoneTwice}
use Rattle.trees.specs.Records.{ClusterOf}
use Rattle.trees.specs.Tree.{Tree, leaves, cluster}
use Rattle.roster.specs.Roster.{names, faulty}
use Rattle.tokens.specs.Supports.{is_given, Threshold}
use Rattle.nodes.specs.Grammar.{strict, Text}
use Rattle.reader.specs.Promise.{Limits, narrow, text_most}
use Rattle.reader.specs.WidePromise.{wide}
use Rattle.reader.specs.declared.Kind.{Kind}
use Rattle.reader.specs.declared.Kind.TheVariants.{Species, Gene}

-- the species that a tree of the kind has, of n: "Species records still have every species", a gene tree may have lost some, but has one (#104)
abbrev pub MayHave : Kind → ℕ → ℕ → Type 0
MayHave Species n s = s ≡ whole n
MayHave Gene n s = ClusterOf n s

-- from start on, the text draws the tree t of the kind, and rest is left behind its `;`: the roster is good, the limits are kept,
-- the grammar has it, in which with a threshold no support has more than three decimals (#113), no species is a leaf twice, and its species are those of such a tree
pub record DrawsWithin (limits : Limits) (kind : Kind) (threshold : Threshold) (line text : List ℕ) (start : ℕ) (t : Tree) (rest : List ℕ) : Type 0 where
  pub good : faulty limits.most line ≡ false
  pub short : length text ≤ text_most
  pub inside : start ≤ length text
  pub derives : Text (strict (is_given threshold) (names line)) limits.room (drop start text) t rest
  pub once : NoneTwice (leaves t)
  pub species : MayHave kind (length (names line)) (cluster t)

-- by 01's limits
abbrev pub Draws : Kind → Threshold → List ℕ → List ℕ → ℕ → Tree → List ℕ → Type 0
Draws kind threshold line text start t rest = DrawsWithin narrow kind threshold line text start t rest

-- on the individuals of a stand: a gene tree, without a threshold, within the limits of #110
abbrev pub DrawsOnStand : List ℕ → List ℕ → ℕ → Tree → List ℕ → Type 0
DrawsOnStand individuals text start t rest = DrawsWithin wide Gene None individuals text start t rest

-- q is the offset just behind the tree
pub record JustBehind (text : List ℕ) (start : ℕ) (rest : List ℕ) (q : ℕ) : Type 0 where
  pub after : start < q
  pub within : q ≤ length text
  pub left : rest ≡ drop q text

-- from start on, the text draws t, and q is "the offset just after `;`"
pub record Accepted (limits : Limits) (kind : Kind) (threshold : Threshold) (line text : List ℕ) (start : ℕ) (t : Tree) (rest : List ℕ) (q : ℕ) : Type 0 where
  pub draws : DrawsWithin limits kind threshold line text start t rest
  pub place : JustBehind text start rest q
