-- The values that the code answers behind a node are those of the bytes in the drawn tree; and which numbers of the grammar have a value.
use Prim.Native.Nat.{ℕ, ◌^◌, ◌≤◌, ◌<◌}
use mathlib.Core.Path.{◌≡◌, refl, sym, ◌∙◌}
use mathlib.Core.Bool.{Bool, true, false≢true}
use mathlib.Core.Logic.{◌⊎◌, inl, inr}
use mathlib.Core.List.{List, [], ◌∷◌, ◌++◌, append-nil, Memᴰ}
use lib.ListN.{length, drop}
use borrow.Author.Tests.{ltb-true}
use Rattle.std.proofs.Common.{Some, Ok}
use Rattle.labels.proofs.RunRules.{run_some, run_all}
use Rattle.trees.specs.Tree.{Tree, Forest, Behind}
use Rattle.trees.specs.Tree.Tree.{leaf, node}
use Rattle.trees.specs.Thinned.{all_nodes}
use Rattle.tokens.specs.Answers.{Answer, and_then}
use Rattle.tokens.specs.Answers.Answer.{parsed}
use Rattle.tokens.specs.Tokens.{inner_name, number_bytes}
use Rattle.tokens.specs.Supports.{supported}
use Rattle.tokens.specs.Values.{too_fine, thousandths}
use Rattle.tokens.specs.Says.{between, behind_says, behind_valued, inner_word}
use Rattle.tokens.specs.declared.answer.Figures.{Figures}
use Rattle.tokens.proofs.Values.{digits-begin, whole_not_fine, fine_by_decimals, NoneWhereFine, none_where_fine, value-below}
use Rattle.nodes.specs.Grammar.{strict, Number, ColonNumber, Numbers, Text}
use Rattle.nodes.specs.Grammar.Number.{whole, decimal}
use Rattle.nodes.specs.Grammar.ColonNumber.{colon}
use Rattle.nodes.specs.Grammar.Numbers.{nothing, distance, both, support}
use Rattle.nodes.specs.Grammar.Text.{text as ended-text}
use Rattle.nodes.specs.Reading.{leaf_new, closing_by, closing}
use Rattle.nodes.specs.Worth.{behind_of, distance_value, support_value, Worth}
use Rattle.nodes.proofs.Answers.{and_then-assoc}
use Rattle.nodes.proofs.Derivations.{two_wanted, over_node}
use Rattle.nodes.proofs.Scanners.{FitTree, FitForest, fits-leaf, fits-node, fits_last, fits_more}

-- what stands behind a node was read, and the node was drawn with it
drawn_worth :
    (text w : List ℕ) (e : Figures) (answer : Answer Behind) (make : Behind → Tree) (t : Tree) {rest : List ℕ} {q : ℕ}
    → ((b : Behind) → behind_of (make b) ≡ b) → behind_says text w (Ok e) ≡ answer → behind_valued text (Ok e)
    → and_then answer (λ b s p. parsed (make b) s p) ≡ parsed t rest q → Worth e t
unfolding distance_value support_value
drawn_worth text w e answer make t {rest} {q} made says values is =
    let b : Behind = record { name = w; distance = between text e.distance; support = between text e.support } in
    let read : parsed (make b) (drop e.next text) e.next ≡ parsed t rest q = rw (← says) at is in
    let drawn : make b ≡ t = cc in
    let behind : behind_of t ≡ b = rw drawn at (made b) in
    record { distance_is = rw behind values.0.0; support_is = rw behind values.1.0 }

-- of a leaf, by the promise of `behind`
pub leaf_worth :
    (given : Bool) (text : List ℕ) (i begun next : ℕ) (e : Figures) (t : Tree) {rest : List ℕ} {q : ℕ}
    → ((w : List ℕ) → behind_says text w (Ok e) ≡ supported given w (drop next text) next) → behind_valued text (Ok e)
    → leaf_new given true i begun (drop next text) next ≡ parsed t rest q → Worth e t
leaf_worth given text i begun next e t says values is =
    drawn_worth text [] e (supported given [] (drop next text) next) (λ b. leaf i b) t (λ b. refl) (says []) values is

-- of an inner node, by the promise of `closing`
pub inner_worth :
    (given : Bool) (text : List ℕ) (at : ℕ) (first : Tree) (others : Forest) (e : Figures) (t : Tree) {rest : List ℕ} {q : ℕ}
    → behind_says text (inner_word (drop at text)) (Ok e) ≡ and_then (inner_name (drop at text) at) (λ w s p. supported given w s p)
    → behind_valued text (Ok e) → closing given first others (drop at text) at ≡ parsed t rest q → Worth e t
unfolding closing_by
inner_worth given text at first others e t says values is =
    drawn_worth text (inner_word (drop at text)) e (and_then (inner_name (drop at text) at) (λ w s p. supported given w s p)) (λ b. node first others b) t
    (λ b. refl) says values
    (and_then-assoc (inner_name (drop at text) at) (λ w s p. supported given w s p) (λ b s p. parsed (node first others b) s p) ∙ is)

-- ---- which numbers of the grammar have a value

-- "a longer one no value" (#113): a number has none exactly where it has more than three decimals
pub number_none : {w s rest : List ℕ} → Number w s rest → NoneWhereFine w
number_none {w = w} (whole r) = none_where_fine w (rw (append-nil w) at (digits-begin (run_all r) (run_some r) []))
number_none (decimal {v = v} {w = w} r u) = none_where_fine (v ++ 46 ∷ w) (digits-begin (run_all r) (run_some r) (46 ∷ w))

-- its decimals are those behind its point
pub number-fine : {w s rest : List ℕ} → Number w s rest → too_fine w ≡ true → (v ds : List ℕ) × (w ≡ v ++ 46 ∷ ds) × (3 < length ds)
number-fine {w = w} (whole r) fine = absurd (false≢true (sym (whole_not_fine w (run_all r) (run_some r)) ∙ fine))
number-fine (decimal {v = v} {w = w} r u) fine =
    (v, w, refl, ltb-true 3 (length w) (sym (fine_by_decimals v w (run_all r) (run_some r) (run_all u)) ∙ fine))

-- ---- both numbers behind a node that is drawn

-- a number within twelve bytes: none exactly where it is too fine, else less than 10 ^ 15 thousandths
pub record Sized (w : List ℕ) : Type 0 where
  pub none : NoneWhereFine w
  pub below : (n : ℕ) → thousandths w ≡ Some n → n < 10 ^ 15

colon-sized :
    {Takes : List ℕ → List ℕ → List ℕ → Type 0} → ((w s rest : List ℕ) → Takes w s rest → length w ≤ number_bytes)
    → {w s rest : List ℕ} → ColonNumber Takes w s rest → Sized w
colon-sized short {w = w} (colon {s₂ = s} {rest = rest} first second number taken) =
    record { none = number_none number; below = λ n is. value-below w n (short w s rest taken) is }

-- each is not written, or such a number
abbrev pub BothSized : List ℕ → List ℕ → Type 0
BothSized d b = ((d ≡ []) ⊎ Sized d) × ((b ≡ []) ⊎ Sized b)

numbers-sized : (given : Bool) (names : List (List ℕ)) {d b s rest : List ℕ} → Numbers (strict given names) d b s rest → BothSized d b
numbers-sized given names nothing = (inl refl, inl refl)
numbers-sized given names (distance d) = (inr (colon-sized (λ w s rest short. short) d), inl refl)
numbers-sized given names (both d b) = (inr (colon-sized (λ w s rest short. short) d), inr (colon-sized (λ w s rest taken. taken.0) b))
numbers-sized given names (support blanks b) = (inl refl, inr (colon-sized (λ w s rest taken. taken.0) b))

abbrev SizedBehind : Behind → Type 0
SizedBehind b = BothSized b.distance b.support

-- what holds of all numbers that may stand behind a node holds behind each node of the tree that a text draws
pub drawn-fits :
    (given : Bool) (names : List (List ℕ)) (Fits : Behind → Type 0)
    → ((w d b s rest : List ℕ) → Numbers (strict given names) d b s rest → Fits (record { name = w; distance = d; support = b }))
    → {k : ℕ} {s : List ℕ} {t : Tree} {rest : List ℕ} → Text (strict given names) k s t rest → FitTree Fits t
drawn-fits given names Fits numbers (ended-text d ends) =
    over_node (strict given names) (λ k s t rest. FitTree Fits t) (λ k s f rest. FitForest Fits f)
    (record {
      at_leaf = λ k i w d b s s₁ s₂ rest gap r known behind.
          fits-leaf Fits i (record { name = []; distance = d; support = b }) (numbers [] d b s₂ rest behind);
      at_inner = λ k t f w d b s s₁ s₂ s₃ s₄ s₅ rest bl first p comma others q inner behind.
          fits-node Fits t f (record { name = w; distance = d; support = b }) p q (numbers w d b s₅ rest behind);
      at_single = λ k t w d b s s₁ s₂ s₃ s₄ rest enough bl only p closes inner behind. absurd (two_wanted enough);
      at_last = λ k t s s₁ rest only p closes. fits_last Fits t p;
      at_more = λ k t f s s₁ s₂ rest first p comma others q. fits_more Fits t f p q;
    })
    d

-- "A number of up to three decimals now yields whole thousandths, .., in everything that reads tree text, a longer one no value" (#113):
-- so do both numbers behind each node of the tree that a text draws, where they are written
pub drawn-sized :
    (given : Bool) (names : List (List ℕ)) {k : ℕ} {s : List ℕ} {t : Tree} {rest : List ℕ} → Text (strict given names) k s t rest
    → (u : Tree) → Memᴰ u (all_nodes t) → BothSized (behind_of u).distance (behind_of u).support
drawn-sized given names d = drawn-fits given names SizedBehind (λ w d b s rest behind. numbers-sized given names behind) d
