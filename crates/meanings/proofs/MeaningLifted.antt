-- A text of the loosest grammar is refused for a limit, a leaf's name, a single child, a missing species or a support, and for nothing else.
use Prim.Native.Nat.{ℕ, zero, suc, ◌+◌, ◌*◌, ◌≤◌, ◌<◌}
use mathlib.Core.Path.{◌≡◌, refl}
use mathlib.Core.Logic.{◌⊎◌, inl, inr}
use mathlib.Core.Bool.{Bool, true, false}
use mathlib.Core.List.{List, [], ◌∷◌}
use native.Mathlib.Decide.{dec_le}
use native.Mathlib.Omega.{arith}
use lib.ListN.{length}
use lib.Dec.{ltb}
use Rattle.clusters.specs.Sets.{single, union, apart, within}
use Rattle.faults.specs.declared.Fault.TheVariants.{LongWord}
use Rattle.labels.specs.Bytes.{next_is, next_label}
use Rattle.labels.specs.Spelling.{Spells}
use Rattle.labels.specs.Labels.{label_bytes, raw_to}
use Rattle.labels.proofs.Spelled.{no_label_over, whole_exact, spells_first}
use Rattle.trees.specs.Tree.{Tree, Forest, Behind, cluster}
use Rattle.trees.specs.Tree.Tree.{leaf, node}
use Rattle.trees.specs.Tree.Forest.{last, more}
use Rattle.roster.specs.Roster.{position}
use Rattle.tokens.specs.Answers.{Answer, and_then}
use Rattle.tokens.specs.Answers.Answer.{parsed, refused}
use Rattle.tokens.specs.Tokens.{number_bytes, blanks, skip, number, number_behind, second_number, numbers_by, numbers, name, inner_name}
use Rattle.tokens.specs.Supports.{refuses_fine, unless_fine, supported}
use Rattle.nodes.specs.Reading.{leaf_new, leaf_known, leaf_at, closing, after_first, opened, after_child, read_node, read_forest, complete, ended, read_tree, closing_by, leaf_by, read_forest_by}
use Rattle.nodes.specs.Reading.{read_node_by, read_tree_by, read_tree_to_by}
use Rattle.nodes.specs.Grammar.{loosest, Blanks, Number, ColonNumber, Numbers, Inner, Node, Text}
use Rattle.nodes.specs.Grammar.ColonNumber.{colon}
use Rattle.nodes.specs.Grammar.Numbers.{nothing, distance, both, support}
use Rattle.nodes.specs.Grammar.Inner.{nameless, named}
use Rattle.nodes.specs.Grammar.Text.{text}
use Rattle.nodes.proofs.Derivations.{Steps, over_node}
use Rattle.nodes.proofs.Exact.{number_first, colon-stopped, numbers-stopped, Stopped, Follows, comma_follows, closing_follows, semicolon_follows, stopped-label}
use Rattle.nodes.proofs.Exact.{stopped-skip-label, follows_no_colon, label_no_blank, label_no_byte, next_not, blanks-skip, skip_to, skip_is, number-gives, name-gives}
use Rattle.nodes.proofs.Answers.{parsed-refused}
use Rattle.nodes.proofs.Fronts.{lifted_placeless, blanks-front, node-front}
use Rattle.nodes.proofs.Spans.{number-long, name-faulty}
use Rattle.meanings.proofs.MeaningContexts.{front_shorter}
use Rattle.meanings.proofs.NumberSpans.{number_span}

-- ---- the numbers that name a limit, a leaf's name, a single child, a missing species or a support: 4 to 9, and 18

abbrev pub Limit : ℕ → Type 0
Limit n = (4 ≤ n) × ((n ≤ 9) ⊎ (n ≡ 18))

low : {n : ℕ} → 4 ≤ n → n ≤ 9 → Limit n
low l h = (l, inl h)

four : Limit 4
four = low (omega arith) (omega arith)

five : Limit 5
five = low (omega arith) (omega arith)

six : Limit 6
six = low (omega arith) (omega arith)

seven : Limit 7
seven = low (omega arith) (omega arith)

eight : Limit 8
eight = low (omega arith) (omega arith)

nine : Limit 9
nine = low (omega arith) (omega arith)

eighteen : Limit 18
eighteen = (omega arith, inr refl)

-- the answer leaves rest, or is such a refusal
pub data Passes {A : Type 0} (rest : List ℕ) : Answer A → Type 0 where
  reads : {x : A} {q : ℕ} → Passes rest (parsed x rest q)
  halts : {n q : ℕ} → Limit n → Passes rest (refused n q)

passes_then :
    {A B : Type 0} (f : A → List ℕ → ℕ → Answer B) {a : Answer A} {m rest : List ℕ}
    → Passes m a → ((x : A) (p : ℕ) → Passes rest (f x m p)) → Passes rest (and_then a f)
passes_then f (reads {x = x} {q = q}) g = g x q
passes_then f (halts l) g = halts l

-- ---- tokens

number-passes : {w s rest : List ℕ} → Number w s rest → Stopped rest → (p : ℕ) → Passes rest (number s p)
number-passes {w} {s} {rest} n stop p = go (dec_le (length w) number_bytes)
  where
    go : Dec (length w ≤ number_bytes) → Passes rest (number s p)
    go (yes short) = rw (number-gives n stop short p).is reads
    go (no long) = rw (number-long s p (omega (arith, number_span n stop))) (halts four)

name-passes : {w s rest : List ℕ} → Spells w s rest → Stopped rest → (p : ℕ) → Passes rest (name s p)
name-passes {w} {s} {rest} r stop p = go (dec_le (length w) label_bytes)
  where
    go : Dec (length w ≤ label_bytes) → Passes rest (name s p)
    go (yes short) = rw (name-gives r (stopped-label stop) short p).is reads
    go (no long) =
        let x = whole_exact (record { spelled = r; over = no_label_over s rest (stopped-label stop) }) in
        rw (name-faulty s p LongWord (raw_to label_bytes s) (x.long (omega arith))) (halts four)

number_behind-passes : {w s m rest : List ℕ} → Blanks s m → Number w m rest → Stopped rest → (p : ℕ) → Passes rest (number_behind s p)
unfolding number_behind
number_behind-passes {s = s} {m = m} gap n stop p = rw (blanks-skip gap (label_no_blank m (number_first n))) (number-passes n stop (p + blanks s))

second-passes :
    (w d : List ℕ) {b s rest : List ℕ} → ColonNumber loosest.support b s rest → Follows rest → (p : ℕ)
    → Passes rest (second_number (next_is 58 (skip s)) w d s p)
second-passes w d {s = s} (colon {s₁ = s₁} bl gap n any) follows p =
    rw (skip_is 58 refl bl, skip_to 58 refl bl)
    (passes_then (λ b s p. parsed (record { name = w; distance = d; support = b }) s p) (number_behind-passes gap n follows.stopped (p + blanks s + 1))
    (λ x q. reads))

first_passes :
    (w : List ℕ) {d s mid rest : List ℕ}
    → ColonNumber loosest.distance d s mid → Stopped mid → ((x : List ℕ) (q : ℕ) → Passes rest (second_number (next_is 58 (skip mid)) w x mid q)) → (p : ℕ)
    → Passes rest (numbers_by (next_is 58 (skip s)) w s p)
first_passes w {s = s} (colon {s₁ = s₁} {s₂ = s₂} bl gap n any) stop second p =
    let e : skip s₁ ≡ s₂ = blanks-skip gap (label_no_blank s₂ (number_first n)) in
    rw (skip_is 58 refl bl, skip_to 58 refl bl, e, label_no_byte 58 s₂ refl (number_first n))
    (passes_then (λ d s p. second_number (next_is 58 (skip s)) w d s p) (number_behind-passes gap n stop (p + blanks s + 1)) second)

support-passes :
    (w : List ℕ) {b s mid rest : List ℕ} → Blanks s (58 ∷ mid) → ColonNumber loosest.support b mid rest → Follows rest → (p : ℕ)
    → Passes rest (numbers_by (next_is 58 (skip s)) w s p)
support-passes w {s = s} {mid = mid} bl (colon {s₁ = s₁} bl₁ gap n any) follows p =
    rw (skip_is 58 refl bl, skip_to 58 refl bl, skip_is 58 refl bl₁, skip_to 58 refl bl₁)
    (passes_then (λ b s p. parsed (record { name = w; distance = []; support = b }) s p)
    (number_behind-passes gap n follows.stopped (p + blanks s + 1 + blanks mid + 1)) (λ x q. reads))

numbers-passes : (w : List ℕ) {d b s rest : List ℕ} → Numbers loosest d b s rest → Follows rest → (p : ℕ) → Passes rest (numbers w s p)
unfolding numbers
numbers-passes w nothing follows p = rw (follows_no_colon follows) reads
numbers-passes w (distance c) follows p = first_passes w c follows.stopped (λ x q. rw (follows_no_colon follows) reads) p
numbers-passes w (both c e) follows p = first_passes w c (colon-stopped e) (λ x q. second-passes w x e follows q) p
numbers-passes w (support bl c) follows p = support-passes w bl c follows p

-- what is read is judged
supported-passes : (given : Bool) (w : List ℕ) {d b s rest : List ℕ} → Numbers loosest d b s rest → Follows rest → (p : ℕ) → Passes rest (supported given w s p)
unfolding supported
supported-passes given w {rest = rest} behind follows p =
    passes_then (λ b s p. unless_fine (refuses_fine given b.support) b s p) (numbers-passes w behind follows p)
    (λ b q. judged (refuses_fine given b.support) b q)
  where
    judged : (t : Bool) (b : Behind) (q : ℕ) → Passes rest (unless_fine t b rest q)
    judged true b q = halts eighteen
    judged false b q = reads

inner_name-passes : {w s rest : List ℕ} → Inner loosest w s rest → Stopped rest → (p : ℕ) → Passes rest (inner_name s p)
unfolding inner_name
inner_name-passes nameless stop p = rw (stopped-skip-label stop) reads
inner_name-passes {s = s} (named {mid = mid} gap r any) stop p =
    let e = blanks-skip gap (label_no_blank mid (spells_first r)) in
    let is : next_label (skip s) ≡ true = rw e (spells_first r) in
    rw (is, e) (name-passes r stop (p + blanks s))

-- ---- leaves and what closes a node

leaf-passes :
    (given : Bool) (names : List (List ℕ)) (seen : ℕ) {w d b m mid rest : List ℕ} → Spells w m mid → Numbers loosest d b mid rest → Follows rest
    → (p : ℕ) → Passes rest (leaf_at given names seen m p)
unfolding leaf_by
leaf-passes given names seen {mid = mid} {rest = rest} r behind follows p =
    passes_then (λ w rest q. leaf_known given (ltb (position w names) (length names)) (position w names) seen p rest q)
    (name-passes r (numbers-stopped behind follows) p) (λ w q. known (ltb (position w names) (length names)) (position w names) q)
  where
    fresh : (t : Bool) (i q : ℕ) → Passes rest (leaf_new given t i p mid q)
    fresh false i q = halts six
    fresh true i q = passes_then (λ b s p. parsed (leaf i b) s p) (supported-passes given [] behind follows q) (λ x z. reads)

    known : (t : Bool) (i q : ℕ) → Passes rest (leaf_known given t i seen p mid q)
    known false i q = halts five
    known true i q = fresh (apart (single i) seen) i q

closing-passes :
    (given : Bool) (t : Tree) (f : Forest) {w d b s m rest : List ℕ} → Inner loosest w s m → Numbers loosest d b m rest → Follows rest → (p : ℕ)
    → Passes rest (closing given t f s p)
unfolding closing_by
closing-passes given t f inner behind follows p =
    passes_then (λ w s p. and_then (supported given w s p) (λ b s p. parsed (node t f b) s p)) (inner_name-passes inner (numbers-stopped behind follows) p)
    (λ w q. passes_then (λ b s p. parsed (node t f b) s p) (supported-passes given w behind follows q) (λ x z. reads))

-- ---- nodes and children

module _ (given : Bool) (names : List (List ℕ)) where
  abbrev NodePasses : ℕ → List ℕ → Tree → List ℕ → Type 0
  NodePasses depth s t rest = Follows rest → (k room seen p : ℕ) → 2 * length s < k → Passes rest (read_node given k names room seen s p)

  abbrev ForestPasses : ℕ → List ℕ → Forest → List ℕ → Type 0
  ForestPasses depth s f rest = (k room seen p : ℕ) → 2 * length s + 1 < k → Passes rest (read_forest given k names room seen s p)

  leaf-step :
      (depth i : ℕ) (w d b s s₁ s₂ rest : List ℕ) → Blanks s s₁ → Spells w s₁ s₂ → Numbers loosest d b s₂ rest
      → NodePasses depth s (leaf i (record { name = []; distance = d; support = b })) rest
  unfolding read_node_by
  leaf-step depth i w d b s s₁ s₂ rest gap r behind follows zero room seen p l = absurd (omega arith)
  leaf-step depth i w d b s s₁ s₂ rest gap r behind follows (suc k) room seen p l =
      let e : skip s ≡ s₁ = blanks-skip gap (label_no_blank s₁ (spells_first r)) in
      let is : next_label (skip s) ≡ true = rw e (spells_first r) in
      rw (is, e) (leaf-passes given names seen r behind follows (p + blanks s))

  -- behind the first child
  others-pass :
      (k depth room seen : ℕ) (t : Tree) (f : Forest) (w d b s s₁ s₂ s₃ rest : List ℕ)
      → Blanks s (44 ∷ s₁) → ForestPasses depth s₁ f s₂ → Inner loosest w s₂ s₃ → Numbers loosest d b s₃ rest → Follows rest
      → 2 * length s₁ + 1 < k → (x : Tree) (p : ℕ)
      → Passes rest (after_first given (next_is 44 (skip s)) (next_is 41 (skip s)) (λ e s p. read_forest given k names room e s p) seen x (skip s) p)
  others-pass k depth room seen t f w d b s s₁ s₂ s₃ rest comma others inner behind follows l x p =
      rw (skip_is 44 refl comma, skip_to 44 refl comma)
      (passes_then (λ f s p. closing given x f s p) (others k room (union seen (cluster x)) (p + 1) l) (λ f q. closing-passes given x f inner behind follows q))

  opened-pass :
      (k depth room seen : ℕ) (t : Tree) (f : Forest) (w d b s s₁ s₂ s₃ s₄ s₅ rest : List ℕ)
      → NodePasses depth s₁ t s₂ → Blanks s₂ (44 ∷ s₃) → ForestPasses depth s₃ f s₄ → Inner loosest w s₄ s₅ → Numbers loosest d b s₅ rest → Follows rest
      → 2 * length s₁ < k → 2 * length s₃ + 1 < k → (p : ℕ)
      → Passes rest (opened given (λ r e s p. read_node given k names r e s p) (λ r e s p. read_forest given k names r e s p) room seen (40 ∷ s₁) p)
  opened-pass k depth zero seen t f w d b s s₁ s₂ s₃ s₄ s₅ rest first comma others inner behind follows l l' p = halts eight
  opened-pass k depth (suc room) seen t f w d b s s₁ s₂ s₃ s₄ s₅ rest first comma others inner behind follows l l' p =
      passes_then
      (λ t s p. after_first given (next_is 44 (skip s)) (next_is 41 (skip s)) (λ e s p. read_forest given k names room e s p) seen t (skip s) (p + blanks s))
      (first (comma_follows comma) k room seen (p + 1) l)
      (λ x q. others-pass k depth room seen t f w d b s₂ s₃ s₄ s₅ rest comma others inner behind follows l' x (q + blanks s₂))

  inner-step :
      (depth : ℕ) (t : Tree) (f : Forest) (w d b s s₁ s₂ s₃ s₄ s₅ rest : List ℕ)
      → Blanks s (40 ∷ s₁) → Node loosest depth s₁ t s₂ → NodePasses depth s₁ t s₂ → Blanks s₂ (44 ∷ s₃) → ForestPasses depth s₃ f s₄ → Inner loosest w s₄ s₅
      → Numbers loosest d b s₅ rest → NodePasses (suc depth) s (node t f (record { name = w; distance = d; support = b })) rest
  unfolding read_node_by next_label
  inner-step depth t f w d b s s₁ s₂ s₃ s₄ s₅ rest bl child first comma others inner behind follows zero room seen p l = absurd (omega arith)
  inner-step depth t f w d b s s₁ s₂ s₃ s₄ s₅ rest bl child first comma others inner behind follows (suc k) room seen p l =
      let e : skip s ≡ 40 ∷ s₁ = skip_to 40 refl bl in
      let no-leaf : next_label (skip s) ≡ false = rw e refl in
      let l₁ = front_shorter (blanks-front bl) in
      let l₂ = front_shorter (node-front loosest (lifted_placeless 1) child) in
      let l₃ = front_shorter (blanks-front comma) in
      rw (no-leaf, skip_is 40 refl bl, e)
      (opened-pass k depth room seen t f w d b s s₁ s₂ s₃ s₄ s₅ rest first comma others inner behind follows (omega arith) (omega arith) (p + blanks s))

  -- the single child was read, and `)` follows it
  single-pass :
      (k depth room seen : ℕ) (t : Tree) (s₁ s₂ s₃ rest : List ℕ)
      → NodePasses depth s₁ t s₂ → Blanks s₂ (41 ∷ s₃) → 2 * length s₁ < k → (p : ℕ)
      → Passes rest (opened given (λ r e s p. read_node given k names r e s p) (λ r e s p. read_forest given k names r e s p) room seen (40 ∷ s₁) p)
  single-pass k depth zero seen t s₁ s₂ s₃ rest only closes l p = halts eight
  single-pass k depth (suc room) seen t s₁ s₂ s₃ rest only closes l p =
      let e : skip s₂ ≡ 41 ∷ s₃ = skip_to 41 refl closes in
      let no-comma : next_is 44 (skip s₂) ≡ false = rw e (next_not 44 41 s₃ refl) in
      passes_then
      (λ t s p. after_first given (next_is 44 (skip s)) (next_is 41 (skip s)) (λ e s p. read_forest given k names room e s p) seen t (skip s) (p + blanks s))
      (only (closing_follows closes) k room seen (p + 1) l) (λ x q. rw (no-comma, skip_is 41 refl closes) (halts seven))

  single_step :
      (depth : ℕ) (t : Tree) (s s₁ s₂ s₃ rest : List ℕ) → Blanks s (40 ∷ s₁) → NodePasses depth s₁ t s₂ → Blanks s₂ (41 ∷ s₃) → NodePasses (suc depth) s t rest
  unfolding read_node_by next_label
  single_step depth t s s₁ s₂ s₃ rest bl only closes follows zero room seen p l = absurd (omega arith)
  single_step depth t s s₁ s₂ s₃ rest bl only closes follows (suc k) room seen p l =
      let e : skip s ≡ 40 ∷ s₁ = skip_to 40 refl bl in
      let no-leaf : next_label (skip s) ≡ false = rw e refl in
      let l₁ = front_shorter (blanks-front bl) in
      rw (no-leaf, skip_is 40 refl bl, e) (single-pass k depth room seen t s₁ s₂ s₃ rest only closes (omega arith) (p + blanks s))

  last_step :
      (depth : ℕ) (t : Tree) (s s₁ rest : List ℕ) → NodePasses depth s t s₁ → Blanks s₁ (41 ∷ rest) → ForestPasses depth s (last t) rest
  unfolding read_forest_by
  last_step depth t s s₁ rest only closes zero room seen p l = absurd (omega arith)
  last_step depth t s s₁ rest only closes (suc k) room seen p l =
      let e : skip s₁ ≡ 41 ∷ rest = skip_to 41 refl closes in
      let no-comma : next_is 44 (skip s₁) ≡ false = rw e (next_not 44 41 rest refl) in
      passes_then
      (λ t s p. after_child (next_is 44 (skip s)) (next_is 41 (skip s)) (λ e s p. read_forest given k names room e s p) seen t (skip s) (p + blanks s))
      (only (closing_follows closes) k room seen p (omega arith)) (λ x q. rw (no-comma, skip_is 41 refl closes, e) reads)

  more_step :
      (depth : ℕ) (t : Tree) (f : Forest) (s s₁ s₂ rest : List ℕ)
      → Node loosest depth s t s₁ → NodePasses depth s t s₁ → Blanks s₁ (44 ∷ s₂) → ForestPasses depth s₂ f rest → ForestPasses depth s (more t f) rest
  unfolding read_forest_by
  more_step depth t f s s₁ s₂ rest child first comma others zero room seen p l = absurd (omega arith)
  more_step depth t f s s₁ s₂ rest child first comma others (suc k) room seen p l =
      let l₁ = front_shorter (node-front loosest (lifted_placeless 1) child) in
      let l₂ = front_shorter (blanks-front comma) in
      passes_then
      (λ t s p. after_child (next_is 44 (skip s)) (next_is 41 (skip s)) (λ e s p. read_forest given k names room e s p) seen t (skip s) (p + blanks s))
      (first (comma_follows comma) k room seen p (omega arith))
      (λ x q.
      rw (skip_is 44 refl comma, skip_to 44 refl comma)
      (passes_then (λ f s p. parsed (more x f) s p) (others k room (union seen (cluster x)) (q + blanks s₁ + 1) (omega arith)) (λ y z. reads)))

  pass-steps : Steps loosest NodePasses ForestPasses
  pass-steps =
      record {
        at_leaf = λ k i w d b s s₁ s₂ rest gap r known behind. leaf-step k i w d b s s₁ s₂ rest gap r behind;
        at_inner = λ k t f w d b s s₁ s₂ s₃ s₄ s₅ rest bl first p comma others q inner behind.
            inner-step k t f w d b s s₁ s₂ s₃ s₄ s₅ rest bl first p comma q inner behind;
        at_single = λ k t w d b s s₁ s₂ s₃ s₄ rest enough bl only p closes inner behind. single_step k t s s₁ s₂ s₃ rest bl p closes;
        at_last = λ k t s s₁ rest only p closes. last_step k t s s₁ rest p closes;
        at_more = λ k t f s s₁ s₂ rest first p comma others q. more_step k t f s s₁ s₂ rest first p comma q;
      }

  -- ---- the tree

  ended-passes : (b : Bool) (t : Tree) (rest : List ℕ) (p : ℕ) → Passes rest (complete b t (59 ∷ rest) p)
  ended-passes true t rest p = reads
  ended-passes false t rest p = halts nine

  text-passes : (most needed : ℕ) {k : ℕ} {s rest : List ℕ} {t : Tree} → Text loosest k s t rest → (p : ℕ) → Passes rest (read_tree given names most needed s p)
  unfolding read_tree_by read_tree_to_by
  text-passes most needed {s = s} {rest = rest} (text {s₁ = m} d ends) p =
      passes_then (λ t s p. ended (next_is 59 (skip s)) needed t (skip s) (p + blanks s))
      (over_node loosest NodePasses ForestPasses pass-steps d (semicolon_follows ends) (2 * length s + 1) most 0 p (omega arith))
      (λ x q. rw (skip_is 59 refl ends, skip_to 59 refl ends) (ended-passes (within needed (cluster x)) x rest (q + blanks m)))

  passed : {A : Type 0} {rest : List ℕ} {a : Answer A} {n q : ℕ} → Passes rest a → a ≡ refused n q → Limit n
  passed reads e = absurd (parsed-refused e)
  passed {n = n} (halts {n = k} l) e = let f : k ≡ n = cc in rw (← f) l

  -- a text of that grammar is refused by 4 to 9 and 18 alone
  pub text-limits :
      (most needed : ℕ) {k : ℕ} {s rest : List ℕ} {t : Tree} → Text loosest k s t rest → (p : ℕ) {n q : ℕ} → read_tree given names most needed s p ≡ refused n q → Limit n
  text-limits most needed d p h = passed (text-passes most needed d p) h
