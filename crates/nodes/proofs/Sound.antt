-- What is read is a tree of the grammar: each species at most once, with all that are needed.
use Prim.Native.Nat.{ℕ, zero, suc, ◌+◌, ◌*◌, ◌≤◌, ◌<◌}
use mathlib.Core.Path.{◌≡◌, refl, sym, ap, ◌∙◌, subst, subst₂}
use mathlib.Core.Logic.{⊎_elim}
use mathlib.Core.Bool.{Bool, true, false}
use mathlib.Core.List.Memᴰ
use mathlib.Core.List.{List, [], ◌∷◌, ◌++◌, tail, append_assoc}
use native.Mathlib.Omega.{arith}
use lib.ListN.{length, take, drop, length-take}
use lib.Seq.{drop-drop, take-add}
use lib.Dec.{leb, ltb}
use borrow.Author.Tests.{eqb-true, leb-true, ltb-true}
use Rattle.clusters.specs.Sets.{Within, Apart, single, union, apart, within}
use Rattle.clusters.proofs.Members.{has_of_apart}
use Rattle.clusters.proofs.Sets.{within-union_left, within-union_right, union-apart, apart-sym, apart-within, apart-true, within-true}
use Rattle.labels.specs.Bytes.{is_digit, is_blank, one_more, run, next_is, next_label}
use Rattle.labels.specs.Spelling.{Run, Spells}
use Rattle.labels.specs.Labels.{label_bytes, letters, Told, told}
use Rattle.labels.specs.Labels.Told.{ended as ends_at, faulty}
use Rattle.labels.proofs.RunRules.{run-derives}
use Rattle.labels.proofs.Spelled.{told_sound}
use Rattle.trees.specs.Lists.{Among, NoneTwice}
use Rattle.trees.specs.Tree.{Tree, Forest, Behind, leaves, leaves_of, cluster, cluster_of}
use Rattle.trees.specs.Tree.Tree.{leaf, node}
use Rattle.trees.specs.Tree.Forest.{last, more}
use Rattle.trees.proofs.Listing.{none_twice_append, none_twice_one}
use Rattle.trees.proofs.Nodes.{leaf-has, leaf_of-has}
use Rattle.roster.specs.Roster.{position}
use Rattle.tokens.specs.Answers.{Answer, and_then, unexpected}
use Rattle.tokens.specs.Answers.Answer.{parsed}
use Rattle.tokens.specs.Tokens.{number_bytes, blanks, skip, limited, numeral, pointed, fraction, digits, number, number_behind}
use Rattle.tokens.specs.Tokens.{second_number, first_number, numbers_by, numbers, name_by, name, inner_name_by, inner_name}
use Rattle.nodes.specs.Reading.{leaf_new, leaf_known, leaf_at, closing, after_first, opened, node_by, after_child, read_node, read_forest, complete, ended, read_tree_to, read_tree, closing_by, leaf_by, read_forest_by, read_node_by, read_tree_by, read_tree_to_by}
use Rattle.tokens.specs.Supports.{refuses_fine, supported}
use Rattle.tokens.proofs.Supports.{supported-parsed}
use Rattle.nodes.specs.Grammar.{strict, Blanks, Number, ColonNumber, Numbers, Inner, Node, Children, Text}
use Rattle.nodes.specs.Grammar.Blanks.{none, blank}
use Rattle.nodes.specs.Grammar.Number.{whole, decimal}
use Rattle.nodes.specs.Grammar.ColonNumber.{colon}
use Rattle.nodes.specs.Grammar.Numbers.{nothing, distance, both, support}
use Rattle.nodes.specs.Grammar.Inner.{nameless, named}
use Rattle.nodes.specs.Grammar.Node.{a_leaf, an_inner}
use Rattle.nodes.specs.Grammar.Children.{the_last, with_more}
use Rattle.nodes.specs.Grammar.Text.{text}
use Rattle.nodes.proofs.Answers.{parsed_same, refused-parsed, and_then-parsed, unexpected-parsed}
use Rattle.nodes.proofs.Derivations.{two_wanted, Steps, over_node}
use Rattle.nodes.proofs.Rests.{Reader, Advances, tail-drop, read_tree_advances}

-- ---- blanks, bytes, runs

pub skip-blanks : (s : List ℕ) → Blanks s (skip s)
unfolding skip run
skip-blanks [] = none
skip-blanks (b ∷ s) = go (is_blank b) refl (skip-blanks s)
  where
    go : (t : Bool) → is_blank b ≡ t → Blanks s (drop (run is_blank s) s) → Blanks (b ∷ s) (drop (one_more t (run is_blank s)) (b ∷ s))
    go true is h = blank is h
    go false is h = none

pub next_is_cons : (b : ℕ) (s : List ℕ) → next_is b s ≡ true → s ≡ b ∷ tail s
unfolding next_is
next_is_cons b [] e = absurd (let z : ◌≡◌ {A = ℕ} 0 1 = cc in omega arith)
next_is_cons b (c ∷ s) e = ap (λ (x : ℕ). x ∷ s) (eqb-true c b e)

-- blanks, then this byte
pub skip-byte : (b : ℕ) (s : List ℕ) → next_is b (skip s) ≡ true → Blanks s (b ∷ tail (skip s))
skip-byte b s e = subst (λ (r : List ℕ). Blanks s r) (next_is_cons b (skip s) e) (skip-blanks s)

-- ---- numbers

pub record NumberRead (w s rest : List ℕ) : Type 0 where
  pub derives : Number w s rest
  pub short : length w ≤ number_bytes

limited-read :
    {A : Type 0} (c p : ℕ) (a : Answer A) {x : A} {rest : List ℕ} {q : ℕ}
    → limited (leb c number_bytes) p a ≡ parsed x rest q → (c ≤ number_bytes) × (a ≡ parsed x rest q)
limited-read {A} c p a {x} {rest} {q} h = go (leb c number_bytes) refl h
  where
    go : (t : Bool) → leb c number_bytes ≡ t → limited t p a ≡ parsed x rest q → (c ≤ number_bytes) × (a ≡ parsed x rest q)
    go true is h = (leb-true c number_bytes is, h)
    go false is h = absurd (refused-parsed h)

numeral-read :
    (c : ℕ) (s : List ℕ) (p : ℕ) {w rest : List ℕ} {q : ℕ}
    → Number (take c s) s (drop c s) → numeral c s p ≡ parsed w rest q → NumberRead w s rest
numeral-read c s p {w} {rest} {q} d h =
    let r = limited-read c p (parsed (take c s) (drop c s) (p + c)) h in
    let l = r.0 in
    let e = r.1 in
    let f : take c s ≡ w = cc in
    let g : drop c s ≡ rest = cc in
    record { derives = rw (← f, ← g) d; short = rw (← f, length-take) (omega arith) }

run_of : (test : ℕ → Bool) (s : List ℕ) (n : ℕ) → n ≡ run test s → 0 < n → Run test (take n s) s (drop n s)
run_of test s n is l = rw is (run-derives test s (omega arith))

-- digits, a point and digits
decimal-derives :
    (d : ℕ) (s : List ℕ) → d ≡ run is_digit s → 0 < d → next_is 46 (drop d s) ≡ true → (e : ℕ) → e ≡ run is_digit (drop (d + 1) s) → 0 < e
    → Number (take (d + 1 + e) s) s (drop (d + 1 + e) s)
decimal-derives d s is l point e ie m =
    let mid = drop (d + 1) s in
    let behind : drop d s ≡ 46 ∷ mid = next_is_cons 46 (drop d s) point ∙ ap (λ (r : List ℕ). 46 ∷ r) (tail-drop d s) in
    let v : Run is_digit (take d s) s (46 ∷ mid) = rw behind at (run_of is_digit s d is l) in
    let w : Run is_digit (take e mid) mid (drop e mid) = run_of is_digit mid e ie m in
    let one_byte : take 1 (drop d s) ≡ 46 ∷ [] = ap (take 1) behind in
    let front : take (d + 1) s ≡ take d s ++ (46 ∷ []) = take-add d 1 s ∙ ap (λ (r : List ℕ). take d s ++ r) one_byte in
    let bytes : take (d + 1 + e) s ≡ take d s ++ 46 ∷ take e mid =
    take-add (d + 1) e s ∙ (ap (λ (r : List ℕ). r ++ take e mid) front ∙ append_assoc (take d s) (46 ∷ []) (take e mid))
    in
    subst₂ (λ (x y : List ℕ). Number x s y) (sym bytes) (drop-drop e (d + 1) s) (decimal v w)

pointed-read :
    (d e : ℕ) (s : List ℕ) (p : ℕ) {w rest : List ℕ} {q : ℕ}
    → d ≡ run is_digit s → 0 < d → next_is 46 (drop d s) ≡ true → e ≡ run is_digit (drop (d + 1) s)
    → pointed d e s p ≡ parsed w rest q → NumberRead w s rest
pointed-read d zero s p is l point ie h =
    absurd (unexpected-parsed (drop (d + 1) s) (p + (d + 1)) (limited-read (d + 1) p (unexpected (drop (d + 1) s) (p + (d + 1))) h).1)
pointed-read d (suc e) s p is l point ie h =
    numeral-read (d + 1 + suc e) s p (decimal-derives d s is l point (suc e) ie (omega arith)) h

fraction-read :
    (t : Bool) (d : ℕ) (s : List ℕ) (p : ℕ) {w rest : List ℕ} {q : ℕ}
    → d ≡ run is_digit s → 0 < d → next_is 46 (drop d s) ≡ t → fraction t d s p ≡ parsed w rest q → NumberRead w s rest
fraction-read false d s p is l point h = numeral-read d s p (whole (run_of is_digit s d is l)) h
fraction-read true d s p is l point h = pointed-read d (run is_digit (drop (d + 1) s)) s p is l point refl h

digits-read :
    (d : ℕ) (s : List ℕ) (p : ℕ) {w rest : List ℕ} {q : ℕ} → d ≡ run is_digit s → digits d s p ≡ parsed w rest q → NumberRead w s rest
digits-read zero s p is h = absurd (unexpected-parsed s p h)
digits-read (suc d) s p is h = fraction-read (next_is 46 (drop (suc d) s)) (suc d) s p is (omega arith) refl h

pub number_read : (s : List ℕ) (p : ℕ) {w rest : List ℕ} {q : ℕ} → number s p ≡ parsed w rest q → NumberRead w s rest
unfolding number
number_read s p h = digits-read (run is_digit s) s p refl h

-- a colon behind blanks, and the number behind it
pub colon-read :
    (Takes : List ℕ → List ℕ → List ℕ → Type 0) (s : List ℕ) (p : ℕ) {w rest : List ℕ} {q : ℕ}
    → next_is 58 (skip s) ≡ true → ((s₂ : List ℕ) → length w ≤ number_bytes → Takes w s₂ rest)
    → number_behind (tail (skip s)) p ≡ parsed w rest q → ColonNumber Takes w s rest
unfolding number_behind
colon-read Takes s p is taken h =
    let m = tail (skip s) in
    let n = number_read (skip m) (p + blanks m) h in
    colon (skip-byte 58 s is) (skip-blanks m) n.derives (taken (skip m) n.short)

-- what stands behind a node, with the name w before it
pub record BehindRead (given : Bool) (names : List (List ℕ)) (w s : List ℕ) (x : Behind) (rest : List ℕ) : Type 0 where
  pub d : List ℕ
  pub b : List ℕ
  pub is : record { name = w; distance = d; support = b } ≡ x
  pub derives : Numbers (strict given names) d b s rest

second_number-read :
    (given : Bool) (names : List (List ℕ)) (t : Bool) (w d s m : List ℕ) (p : ℕ) {x : Behind} {rest : List ℕ} {q : ℕ}
    → next_is 58 (skip m) ≡ t → ColonNumber (strict given names).distance d s m → second_number t w d m p ≡ parsed x rest q → refuses_fine given x.support ≡ false → BehindRead given names w s x rest
second_number-read given names false w d s m p {x} {rest} is c h coarse =
    let e : m ≡ rest = cc in
    record { d = d; b = []; is = cc; derives = rw (← e) (distance c) }
second_number-read given names true w d s m p {x} {rest} is c h coarse =
    let r =
    and_then-parsed (number_behind (tail (skip m)) (p + blanks m + 1)) (λ b s p. parsed (record { name = w; distance = d; support = b }) s p) h
    in
    let a = r.after in
    let e : r.left ≡ rest = cc in
    let same : r.value ≡ x.support = ap (λ (y : Behind). y.support) (parsed_same a) in
    record { d = d; b = r.value; is = cc; derives = both c (rw e at (colon-read (strict given names).support m (p + blanks m + 1) is (λ s₂ short. (short, rw (← same) at coarse)) r.first)) }

first_number-read :
    (given : Bool) (names : List (List ℕ)) (t : Bool) (w s : List ℕ) (p : ℕ) {x : Behind} {rest : List ℕ} {q : ℕ}
    → next_is 58 (skip s) ≡ true → next_is 58 (skip (tail (skip s))) ≡ t → first_number t w (tail (skip s)) p ≡ parsed x rest q
    → refuses_fine given x.support ≡ false → BehindRead given names w s x rest
first_number-read given names true w s p {x} {rest} is again h coarse =
    let m = tail (skip s) in
    let r =
    and_then-parsed (number_behind (tail (skip m)) (p + blanks m + 1)) (λ b s p. parsed (record { name = w; distance = []; support = b }) s p) h
    in
    let a = r.after in
    let e : r.left ≡ rest = cc in
    let same : r.value ≡ x.support = ap (λ (y : Behind). y.support) (parsed_same a) in
    let number = colon-read (strict given names).support m (p + blanks m + 1) again (λ s₂ short. (short, rw (← same) at coarse)) r.first in
    record { d = []; b = r.value; is = cc; derives = support (skip-byte 58 s is) (rw e at number) }
first_number-read given names false w s p is again h coarse =
    let r = and_then-parsed (number_behind (tail (skip s)) p) (λ d s p. second_number (next_is 58 (skip s)) w d s p) h in
    second_number-read given names (next_is 58 (skip r.left)) w r.value s r.left r.place refl
    (colon-read (strict given names).distance s p is (λ s₂ short. short) r.first) r.after coarse

numbers_by-read :
    (given : Bool) (names : List (List ℕ)) (t : Bool) (w s : List ℕ) (p : ℕ) {x : Behind} {rest : List ℕ} {q : ℕ}
    → next_is 58 (skip s) ≡ t → numbers_by t w s p ≡ parsed x rest q → refuses_fine given x.support ≡ false → BehindRead given names w s x rest
numbers_by-read given names false w s p {x} {rest} is h coarse =
    let e : s ≡ rest = cc in
    record { d = []; b = []; is = cc; derives = rw e nothing }
numbers_by-read given names true w s p is h coarse = first_number-read given names (next_is 58 (skip (tail (skip s)))) w s (p + blanks s + 1) is refl h coarse

numbers-read :
    (given : Bool) (names : List (List ℕ)) (w s : List ℕ) (p : ℕ) {x : Behind} {rest : List ℕ} {q : ℕ}
    → numbers w s p ≡ parsed x rest q → refuses_fine given x.support ≡ false → BehindRead given names w s x rest
unfolding numbers
numbers-read given names w s p h coarse = numbers_by-read given names (next_is 58 (skip s)) w s p refl h coarse

-- numbers that were read and judged are those of the grammar, of which no support is refused
pub supported-read :
    (given : Bool) (names : List (List ℕ)) (w s : List ℕ) (p : ℕ) {x : Behind} {rest : List ℕ} {q : ℕ}
    → supported given w s p ≡ parsed x rest q → BehindRead given names w s x rest
supported-read given names w s p h = let j = supported-parsed given w s p h in numbers-read given names w s p j.numbers_are j.not_fine

-- ---- names

pub record NameRead (w s rest : List ℕ) : Type 0 where
  pub derives : Spells w s rest
  pub short : length w ≤ label_bytes

pub name-read : (s : List ℕ) (p : ℕ) {w rest : List ℕ} {q : ℕ} → next_label s ≡ true → name s p ≡ parsed w rest q → NameRead w s rest
unfolding name
name-read s p {w} {rest} {q} is h = go (told s) refl h
  where
    go : (t : Told) → told s ≡ t → name_by t s p ≡ parsed w rest q → NameRead w s rest
    go (ends_at n) e h =
        let k = told_sound s n is e in
        let f : letters s ≡ w = cc in
        let g : drop n s ≡ rest = cc in
        rw (← f, ← g) (record { derives = k.whole.spelled; short = k.short })
    go (faulty number d) e h = absurd (refused-parsed h)

pub inner_name-read :
    (given : Bool) (names : List (List ℕ)) (s : List ℕ) (p : ℕ) {w rest : List ℕ} {q : ℕ} → inner_name s p ≡ parsed w rest q → Inner (strict given names) w s rest
unfolding inner_name
inner_name-read given names s p {w} {rest} {q} h = go (next_label (skip s)) refl h
  where
    go : (t : Bool) → next_label (skip s) ≡ t → inner_name_by t s p ≡ parsed w rest q → Inner (strict given names) w s rest
    go false is h =
        let f : [] ≡ w = cc in
        let g : s ≡ rest = cc in
        rw (← f, ← g) nameless
    go true is h = let n = name-read (skip s) (p + blanks s) is h in named (skip-blanks s) n.derives n.short

-- ---- nodes

-- a tree of the grammar, none of its species among those seen before, and each once
pub record NodeRead (given : Bool) (names : List (List ℕ)) (room seen : ℕ) (s : List ℕ) (t : Tree) (rest : List ℕ) : Type 0 where
  pub derives : Node (strict given names) room s t rest
  pub once : NoneTwice (leaves t)
  pub new : Apart (cluster t) seen

pub record ForestRead (given : Bool) (names : List (List ℕ)) (room seen : ℕ) (s : List ℕ) (f : Forest) (rest : List ℕ) : Type 0 where
  pub derives : Children (strict given names) room s f rest
  pub once : NoneTwice (leaves_of f)
  pub new : Apart (cluster_of f) seen

-- a child and those behind it, which were read with its species seen
pub record Joined (seen : ℕ) (t : Tree) (f : Forest) : Type 0 where
  pub once : NoneTwice (leaves t ++ leaves_of f)
  pub new : Apart (union (cluster t) (cluster_of f)) seen

pub joins :
    (seen : ℕ) (t : Tree) (f : Forest)
    → NoneTwice (leaves t) → Apart (cluster t) seen → NoneTwice (leaves_of f) → Apart (cluster_of f) (union seen (cluster t)) → Joined seen t f
joins seen t f once new once' new' =
    let c = cluster t in
    let c' = cluster_of f in
    let u = union seen c in
    let both-apart = apart-sym c' u new' in
    record {
      once = none_twice_append (leaves t) (leaves_of f) once once'
          (λ i h h'. has_of_apart c c' i (apart-within c u c' (within-union_right seen c) both-apart) (leaf-has t i h) (leaf_of-has f i h'));
      new = union-apart c c' seen new (apart-sym seen c' (apart-within seen u c' (within-union_left seen c) both-apart));
    }

leaf_new-read :
    (given : Bool) (names : List (List ℕ)) (room i seen begun : ℕ) (w s m mid : List ℕ) (p : ℕ) {x : Tree} {rest : List ℕ} {q : ℕ}
    → Blanks s m → NameRead w m mid → position w names ≡ i → i < length names
    → leaf_new given (apart (single i) seen) i begun mid p ≡ parsed x rest q → NodeRead given names room seen s x rest
unfolding leaves cluster
leaf_new-read given names room i seen begun w s m mid p {x} {rest} {q} bl n at known h = go (apart (single i) seen) refl h
  where
    go : (t : Bool) → apart (single i) seen ≡ t → leaf_new given t i begun mid p ≡ parsed x rest q → NodeRead given names room seen s x rest
    go false is h = absurd (refused-parsed h)
    go true is h =
        let r = and_then-parsed (supported given [] mid p) (λ b s p. parsed (leaf i b) s p) h in
        let a = r.after in
        let e : r.left ≡ rest = cc in
        let b = supported-read given names [] mid p r.first in
        let f : leaf i (record { name = []; distance = b.d; support = b.b }) ≡ x = cc b.is in
        rw (← f)
        (record {
          derives = a_leaf bl n.derives (n.short, at, known) (subst (λ (l : List ℕ). Numbers (strict given names) b.d b.b mid l) e b.derives);
          once = none_twice_one i;
          new = apart-true (single i) seen is;
        })

leaf_at-read :
    (given : Bool) (names : List (List ℕ)) (room seen : ℕ) (s m : List ℕ) (p : ℕ) {x : Tree} {rest : List ℕ} {q : ℕ}
    → Blanks s m → next_label m ≡ true → leaf_at given names seen m p ≡ parsed x rest q → NodeRead given names room seen s x rest
unfolding leaf_by
leaf_at-read given names room seen s m p {x} {rest} {q} bl is h =
    let r = and_then-parsed (name m p) (λ w rest q. leaf_known given (ltb (position w names) (length names)) (position w names) seen p rest q) h in
    let i = position r.value names in
    go r.value r.left r.place (name-read m p is r.first) (ltb i (length names)) refl r.after
  where
    go :
        (w mid : List ℕ) (z : ℕ) → NameRead w m mid → (t : Bool) → ltb (position w names) (length names) ≡ t
        → leaf_known given t (position w names) seen p mid z ≡ parsed x rest q → NodeRead given names room seen s x rest
    go w mid z n true known h =
        leaf_new-read given names room (position w names) seen p w s m mid z bl n refl (ltb-true (position w names) (length names) known) h
    go w mid z n false known h = absurd (refused-parsed h)

-- ---- inner nodes; what a piece of reading derives from every text and place

abbrev Nodes : Bool → List (List ℕ) → (ℕ → Reader Tree) → Type 0
Nodes given names read =
    (r e : ℕ) (s : List ℕ) (p : ℕ) (t : Tree) (rest : List ℕ) (q : ℕ) → read r e s p ≡ parsed t rest q → NodeRead given names r e s t rest

abbrev Forests : Bool → List (List ℕ) → (ℕ → Reader Forest) → Type 0
Forests given names read =
    (r e : ℕ) (s : List ℕ) (p : ℕ) (f : Forest) (rest : List ℕ) (q : ℕ) → read r e s p ≡ parsed f rest q → ForestRead given names r e s f rest

closing-read :
    (given : Bool) (names : List (List ℕ)) (room seen : ℕ) (t : Tree) (f : Forest) (s s₁ s₂ s₃ s₄ : List ℕ) (p : ℕ) {x : Tree} {rest : List ℕ} {q : ℕ}
    → Blanks s (40 ∷ s₁) → NodeRead given names room seen s₁ t s₂ → Blanks s₂ (44 ∷ s₃) → ForestRead given names room (union seen (cluster t)) s₃ f s₄
    → closing given t f s₄ p ≡ parsed x rest q → NodeRead given names (suc room) seen s x rest
unfolding closing_by leaves cluster
closing-read given names room seen t f s s₁ s₂ s₃ s₄ p {x} {rest} bl n comma c h =
    let r = and_then-parsed (inner_name s₄ p) (λ w s p. and_then (supported given w s p) (λ b s p. parsed (node t f b) s p)) h in
    let z = and_then-parsed (supported given r.value r.left r.place) (λ b s p. parsed (node t f b) s p) r.after in
    let a = z.after in
    let e : z.left ≡ rest = cc in
    let b = supported-read given names r.value r.left r.place z.first in
    let g : node t f (record { name = r.value; distance = b.d; support = b.b }) ≡ x = cc b.is in
    let j = joins seen t f n.once n.new c.once c.new in
    rw (← g)
    (record {
      derives = an_inner bl n.derives comma c.derives (inner_name-read given names s₄ p r.first)
          (subst (λ (l : List ℕ). Numbers (strict given names) b.d b.b r.left l) e b.derives);
      once = j.once;
      new = j.new;
    })

after_first-read :
    (given : Bool) (names : List (List ℕ)) (t u : Bool) (others : ℕ → Reader Forest) (room seen : ℕ) (c : Tree) (s s₁ s₂ : List ℕ) (p : ℕ)
    {x : Tree} {rest : List ℕ} {q : ℕ}
    → Forests given names others → Blanks s (40 ∷ s₁) → NodeRead given names room seen s₁ c s₂ → next_is 44 (skip s₂) ≡ t
    → after_first given t u (λ e s p. others room e s p) seen c (skip s₂) p ≡ parsed x rest q → NodeRead given names (suc room) seen s x rest
after_first-read given names true u others room seen c s s₁ s₂ p fs bl n is h =
    let m = tail (skip s₂) in
    let r = and_then-parsed (others room (union seen (cluster c)) m (p + 1)) (λ f s p. closing given c f s p) h in
    closing-read given names room seen c r.value s s₁ s₂ m r.left r.place bl n (skip-byte 44 s₂ is)
    (fs room (union seen (cluster c)) m (p + 1) r.value r.left r.place r.first) r.after
after_first-read given names false true others room seen c s s₁ s₂ p fs bl n is h = absurd (refused-parsed h)
after_first-read given names false false others room seen c s s₁ s₂ p fs bl n is h = absurd (unexpected-parsed (skip s₂) p h)

opened-read :
    (given : Bool) (names : List (List ℕ)) (first : ℕ → Reader Tree) (others : ℕ → Reader Forest) (room seen : ℕ) (s m : List ℕ) (p : ℕ)
    {x : Tree} {rest : List ℕ} {q : ℕ}
    → Nodes given names first → Forests given names others → Blanks s m → next_is 40 m ≡ true
    → opened given first others room seen m p ≡ parsed x rest q → NodeRead given names room seen s x rest
opened-read given names first others zero seen s m p ns fs bl is h = absurd (refused-parsed h)
opened-read given names first others (suc room) seen s m p ns fs bl is h =
    let r =
    and_then-parsed (first room seen (tail m) (p + 1))
    (λ t s p. after_first given (next_is 44 (skip s)) (next_is 41 (skip s)) (λ e s p. others room e s p) seen t (skip s) (p + blanks s)) h
    in
    let k = r.left in
    after_first-read given names (next_is 44 (skip k)) (next_is 41 (skip k)) others room seen r.value s (tail m) k (r.place + blanks k) fs
    (subst (λ (l : List ℕ). Blanks s l) (next_is_cons 40 m is) bl)
    (ns room seen (tail m) (p + 1) r.value k r.place r.first) refl r.after

node_by-read :
    (given : Bool) (t u : Bool) (names : List (List ℕ)) (first : ℕ → Reader Tree) (others : ℕ → Reader Forest) (room seen : ℕ) (s m : List ℕ) (p : ℕ)
    {x : Tree} {rest : List ℕ} {q : ℕ}
    → Nodes given names first → Forests given names others → Blanks s m → next_label m ≡ t → next_is 40 m ≡ u
    → node_by given t u names first others room seen m p ≡ parsed x rest q → NodeRead given names room seen s x rest
node_by-read given true u names first others room seen s m p ns fs bl is opens h = leaf_at-read given names room seen s m p bl is h
node_by-read given false true names first others room seen s m p ns fs bl is opens h = opened-read given names first others room seen s m p ns fs bl opens h
node_by-read given false false names first others room seen s m p ns fs bl is opens h = absurd (unexpected-parsed m p h)

-- ---- children

after_child-read :
    (given : Bool) (names : List (List ℕ)) (t u : Bool) (others : ℕ → Reader Forest) (room seen : ℕ) (c : Tree) (s m : List ℕ) (p : ℕ)
    {x : Forest} {rest : List ℕ} {q : ℕ}
    → Forests given names others → NodeRead given names room seen s c m → next_is 44 (skip m) ≡ t → next_is 41 (skip m) ≡ u
    → after_child t u (λ e s p. others room e s p) seen c (skip m) p ≡ parsed x rest q → ForestRead given names room seen s x rest
unfolding leaves_of cluster_of
after_child-read given names true u others room seen c s m p {x} {rest} fs n is closes h =
    let k = tail (skip m) in
    let r = and_then-parsed (others room (union seen (cluster c)) k (p + 1)) (λ f s p. parsed (more c f) s p) h in
    let a = r.after in
    let e : r.left ≡ rest = cc in
    let g : more c r.value ≡ x = cc in
    let f = fs room (union seen (cluster c)) k (p + 1) r.value r.left r.place r.first in
    let j = joins seen c r.value n.once n.new f.once f.new in
    rw (← g) (record { derives = with_more n.derives (skip-byte 44 m is) (rw e at f.derives); once = j.once; new = j.new })
after_child-read given names false true others room seen c s m p {x} {rest} fs n is closes h =
    let e : tail (skip m) ≡ rest = cc in
    let g : last c ≡ x = cc in
    rw (← g) (record { derives = the_last n.derives (rw e at (skip-byte 41 m closes)); once = n.once; new = n.new })
after_child-read given names false false others room seen c s m p fs n is closes h = absurd (unexpected-parsed (skip m) p h)

forest-read :
    (given : Bool) (names : List (List ℕ)) (first : ℕ → Reader Tree) (others : ℕ → Reader Forest) (room seen : ℕ) (s : List ℕ) (p : ℕ)
    {x : Forest} {rest : List ℕ} {q : ℕ}
    → Nodes given names first → Forests given names others
    → and_then (first room seen s p)
    (λ t s p. after_child (next_is 44 (skip s)) (next_is 41 (skip s)) (λ e s p. others room e s p) seen t (skip s) (p + blanks s)) ≡ parsed x rest q
    → ForestRead given names room seen s x rest
forest-read given names first others room seen s p ns fs h =
    let r =
    and_then-parsed (first room seen s p)
    (λ t s p. after_child (next_is 44 (skip s)) (next_is 41 (skip s)) (λ e s p. others room e s p) seen t (skip s) (p + blanks s)) h
    in
    let k = r.left in
    after_child-read given names (next_is 44 (skip k)) (next_is 41 (skip k)) others room seen r.value s k (r.place + blanks k) fs
    (ns room seen s p r.value k r.place r.first) refl refl r.after

mutual
  unfolding read_node_by read_forest_by

  pub read_node_sound :
      (given : Bool) (k : ℕ) (names : List (List ℕ)) (room seen : ℕ) (s : List ℕ) (p : ℕ) (t : Tree) (rest : List ℕ) (q : ℕ)
      → read_node given k names room seen s p ≡ parsed t rest q → NodeRead given names room seen s t rest
  read_node_sound given zero names room seen s p t rest q h = absurd (refused-parsed h)
  read_node_sound given (suc k) names room seen s p t rest q h =
      node_by-read given (next_label (skip s)) (next_is 40 (skip s)) names (λ r e s p. read_node given k names r e s p) (λ r e s p. read_forest given k names r e s p)
      room seen s (skip s) (p + blanks s)
      (λ r e s p t rest q h. read_node_sound given k names r e s p t rest q h) (λ r e s p f rest q h. read_forest_sound given k names r e s p f rest q h)
      (skip-blanks s) refl refl h

  pub read_forest_sound :
      (given : Bool) (k : ℕ) (names : List (List ℕ)) (room seen : ℕ) (s : List ℕ) (p : ℕ) (f : Forest) (rest : List ℕ) (q : ℕ)
      → read_forest given k names room seen s p ≡ parsed f rest q → ForestRead given names room seen s f rest
  read_forest_sound given zero names room seen s p f rest q h = absurd (refused-parsed h)
  read_forest_sound given (suc k) names room seen s p f rest q h =
      forest-read given names (λ r e s p. read_node given k names r e s p) (λ r e s p. read_forest given k names r e s p) room seen s p
      (λ r e s p t rest q h. read_node_sound given k names r e s p t rest q h) (λ r e s p f rest q h. read_forest_sound given k names r e s p f rest q h) h

-- ---- every leaf is on the roster

either-known : {P : Type 0} (i : ℕ) (k l : List ℕ) → (Among i k → P) → (Among i l → P) → Among i (k ++ l) → P
either-known i k l f g h = ⊎_elim f g (Memᴰ.append_cases k h)

abbrev pub AllKnown : List (List ℕ) → List ℕ → Type 0
AllKnown names l = (i : ℕ) → Among i l → i < length names

known-steps :
    (given : Bool) (names : List (List ℕ)) → Steps (strict given names) (λ k s t rest. AllKnown names (leaves t)) (λ k s f rest. AllKnown names (leaves_of f))
unfolding leaves leaves_of
known-steps given names =
    record {
      at_leaf = λ k i w d b s s₁ s₂ rest bl r known behind j h. rw (Memᴰ.eq_of_singleton h) known.2;
      at_inner = λ k t f w d b s s₁ s₂ s₃ s₄ s₅ rest bl first p comma others q inner behind i h. either-known i (leaves t) (leaves_of f) (p i) (q i) h;
      at_single = λ k t w d b s s₁ s₂ s₃ s₄ rest enough bl only p closes inner behind. absurd (two_wanted enough);
      at_last = λ k t s s₁ rest only p closes. p;
      at_more = λ k t f s s₁ s₂ rest first p comma others q i h. either-known i (leaves t) (leaves_of f) (p i) (q i) h;
    }

pub text-known : (given : Bool) (names : List (List ℕ)) {k : ℕ} {s rest : List ℕ} {t : Tree} → Text (strict given names) k s t rest → AllKnown names (leaves t)
text-known given names (text only ends) =
    over_node (strict given names) (λ k s t rest. AllKnown names (leaves t)) (λ k s f rest. AllKnown names (leaves_of f)) (known-steps given names) only

-- ---- the tree

-- what a reading that answers a tree has read
pub record TreeRead (given : Bool) (names : List (List ℕ)) (most needed : ℕ) (s : List ℕ) (t : Tree) (rest : List ℕ) : Type 0 where
  pub derives : Text (strict given names) most s t rest
  pub once : NoneTwice (leaves t)
  pub all : Within needed (cluster t)

complete-read :
    (given : Bool) (names : List (List ℕ)) (most needed : ℕ) (c : Tree) (s m : List ℕ) (p : ℕ) {x : Tree} {rest : List ℕ} {q : ℕ}
    → NodeRead given names most 0 s c m → next_is 59 (skip m) ≡ true
    → complete (within needed (cluster c)) c (skip m) p ≡ parsed x rest q → TreeRead given names most needed s x rest
complete-read given names most needed c s m p {x} {rest} {q} n is h = go (within needed (cluster c)) refl h
  where
    go : (t : Bool) → within needed (cluster c) ≡ t → complete t c (skip m) p ≡ parsed x rest q → TreeRead given names most needed s x rest
    go true all h =
        let e : tail (skip m) ≡ rest = cc in
        let g : c ≡ x = cc in
        rw (← g, ← e)
        (record { derives = text n.derives (skip-byte 59 m is); once = n.once; all = within-true needed (cluster c) all })
    go false all h = absurd (refused-parsed h)

ended-read :
    (given : Bool) (names : List (List ℕ)) (most : ℕ) (t : Bool) (needed : ℕ) (c : Tree) (s m : List ℕ) (p : ℕ) {x : Tree} {rest : List ℕ} {q : ℕ}
    → NodeRead given names most 0 s c m → next_is 59 (skip m) ≡ t → ended t needed c (skip m) p ≡ parsed x rest q → TreeRead given names most needed s x rest
ended-read given names most true needed c s m p n is h = complete-read given names most needed c s m p n is h
ended-read given names most false needed c s m p n is h = absurd (unexpected-parsed (skip m) p h)

pub read_tree_to_sound :
    (given : Bool) (k : ℕ) (names : List (List ℕ)) (most needed : ℕ) (s : List ℕ) (p : ℕ) {t : Tree} {rest : List ℕ} {q : ℕ}
    → read_tree_to given k names most needed s p ≡ parsed t rest q → TreeRead given names most needed s t rest
unfolding read_tree_to_by
read_tree_to_sound given k names most needed s p h =
    let r = and_then-parsed (read_node given k names most 0 s p) (λ t s p. ended (next_is 59 (skip s)) needed t (skip s) (p + blanks s)) h in
    let m = r.left in
    ended-read given names most (next_is 59 (skip m)) needed r.value s m (r.place + blanks m)
    (read_node_sound given k names most 0 s p r.value m r.place r.first) refl r.after

-- an answered tree: it is drawn by the grammar, has each species once at most and all that are needed, no leaf off the roster, and reading moved on
pub record TreeSound (given : Bool) (names : List (List ℕ)) (most needed : ℕ) (s : List ℕ) (p : ℕ) (t : Tree) (rest : List ℕ) (q : ℕ) : Type 0 where
  pub derives : Text (strict given names) most s t rest
  pub once : NoneTwice (leaves t)
  pub all : Within needed (cluster t)
  pub known : AllKnown names (leaves t)
  pub moved : Advances s p rest q

pub read_sound :
    (given : Bool) (names : List (List ℕ)) (most needed : ℕ) (s : List ℕ) (p : ℕ) {t : Tree} {rest : List ℕ} {q : ℕ}
    → read_tree given names most needed s p ≡ parsed t rest q → TreeSound given names most needed s p t rest q
unfolding read_tree_by
read_sound given names most needed s p h =
    let r = read_tree_to_sound given (2 * length s + 1) names most needed s p h in
    record { derives = r.derives; once = r.once; all = r.all; known = text-known given names r.derives; moved = read_tree_advances given names most needed s p h }
