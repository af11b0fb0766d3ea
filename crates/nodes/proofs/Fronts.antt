-- What a derivation uses up is a front of the text, and it is one before any other rest; and limits and roster can be lifted.
use mathlib.Core.Bool.{Bool}
use Prim.Native.Nat.{ℕ, suc, ◌≤◌}
use mathlib.Core.Path.{refl, sym, ap, ◌∙◌}
use mathlib.Core.List.{List, [], ◌∷◌, ◌++◌, append_assoc}
use Rattle.labels.specs.Bytes.{is_digit}
use Rattle.labels.specs.Spelling.{Run, Spells}
use Rattle.labels.proofs.LabelFronts.{Front, front_as, front-elsewhere, run-front, spells-front}
use Rattle.trees.specs.Tree.{Tree, Forest}
use Rattle.trees.specs.Tree.Tree.{leaf, node}
use Rattle.trees.specs.Tree.Forest.{last, more}
use Rattle.nodes.specs.Grammar.{Rules, strict, lifted_to, lifted, Blanks, Number, ColonNumber, Numbers, Inner, Node, Children, Text}
use Rattle.nodes.specs.Grammar.Blanks.{none, blank}
use Rattle.nodes.specs.Grammar.Number.{whole, decimal}
use Rattle.nodes.specs.Grammar.ColonNumber.{colon}
use Rattle.nodes.specs.Grammar.Numbers.{nothing, distance, both, support}
use Rattle.nodes.specs.Grammar.Inner.{nameless, named}
use Rattle.nodes.specs.Grammar.Node.{a_leaf, an_inner, a_single}
use Rattle.nodes.specs.Grammar.Children.{the_last, with_more}
use Rattle.nodes.specs.Grammar.Text.{text}
use Rattle.nodes.proofs.Derivations.{two_wanted, Steps, over_node, over_children}

-- rules that look at names and numbers alone, and not at where they stand
pub record Placeless (R : Rules) : Type 0 where
  pub leaf_names : {w : List ℕ} {i : ℕ} {s rest : List ℕ} → R.leaf_name w i s rest → (s' rest' : List ℕ) → R.leaf_name w i s' rest'
  pub inner_names : {w s rest : List ℕ} → R.inner_name w s rest → (s' rest' : List ℕ) → R.inner_name w s' rest'
  pub distances : (w s rest s' rest' : List ℕ) → R.distance w s rest → R.distance w s' rest'
  pub supports : (w s rest s' rest' : List ℕ) → R.support w s rest → R.support w s' rest'

pub strict_placeless : (given : Bool) (names : List (List ℕ)) → Placeless (strict given names)
strict_placeless given names = record { leaf_names = λ h s rest. h; inner_names = λ h s rest. h; distances = λ w s rest s' rest' h. h; supports = λ w s rest s' rest' h. h }

pub lifted_placeless : (least : ℕ) → Placeless (lifted_to least)
lifted_placeless least = record { leaf_names = λ h s rest. h; inner_names = λ h s rest. h; distances = λ w s rest s' rest' h. h; supports = λ w s rest s' rest' h. h }

-- ---- one piece behind another

pub record Then (X Y : List ℕ → List ℕ → Type 0) (s rest : List ℕ) : Type 0 where
  pub mid : List ℕ
  pub first : X s mid
  pub second : Y mid rest

pub front-then : (X Y : List ℕ → List ℕ → Type 0) {s m rest : List ℕ} → Front X s m → Front Y m rest → Front (Then X Y) s rest
front-then X Y {s} {m} {rest} a b =
    let u = a.bytes in
    let v = b.bytes in
    record {
      bytes = u ++ v;
      split = a.split ∙ (ap (λ (l : List ℕ). u ++ l) b.split ∙ sym (append_assoc u v rest));
      anywhere = λ behind.
          record { mid = v ++ behind; first = rw append_assoc (a.anywhere (v ++ behind)); second = b.anywhere behind };
    }

pub front_none : (X : List ℕ → List ℕ → Type 0) (s : List ℕ) → ((s : List ℕ) → X s s) → Front X s s
front_none X s f = record { bytes = []; split = refl; anywhere = f }

-- a byte that stands behind goes with the front
pub front-byte : (X : List ℕ → List ℕ → Type 0) (b : ℕ) {s rest : List ℕ} → Front X s (b ∷ rest) → Front (λ s rest. X s (b ∷ rest)) s rest
front-byte X b {s} {rest} a =
    let u = a.bytes in
    record {
      bytes = u ++ (b ∷ []);
      split = a.split ∙ sym (append_assoc u (b ∷ []) rest);
      anywhere = λ behind. rw append_assoc (a.anywhere (b ∷ behind));
    }

-- ---- tokens

pub blanks-front : {s rest : List ℕ} → Blanks s rest → Front Blanks s rest
blanks-front {s} none = front_none Blanks s (λ s. none)
blanks-front (blank {b = b} is d) =
    let f = blanks-front d in
    record { bytes = b ∷ f.bytes; split = ap (λ (l : List ℕ). b ∷ l) f.split; anywhere = λ behind. blank is (f.anywhere behind) }

-- blanks and a byte
abbrev pub BlanksAnd : ℕ → List ℕ → List ℕ → Type 0
BlanksAnd b s rest = Blanks s (b ∷ rest)

pub byte-front : (b : ℕ) {s rest : List ℕ} → Blanks s (b ∷ rest) → Front (BlanksAnd b) s rest
byte-front b d = front-byte Blanks b (blanks-front d)

pub number-front : {w s rest : List ℕ} → Number w s rest → Front (Number w) s rest
number-front {w} (whole r) = front_as (Run is_digit w) (Number w) (λ s rest r. whole r) (run-front r)
number-front (decimal {v = v} {w = w} r u) =
    let Digits : List ℕ → List ℕ → Type 0 = λ s rest. Run is_digit v s (46 ∷ rest) in
    front_as (Then Digits (Run is_digit w)) (Number (v ++ 46 ∷ w)) (λ s rest h. decimal h.first h.second)
    (front-then Digits (Run is_digit w) (front-byte (Run is_digit v) 46 (run-front r)) (run-front u))

pub colon-front :
    (Takes : List ℕ → List ℕ → List ℕ → Type 0) {w s rest : List ℕ}
    → ((w s rest s' rest' : List ℕ) → Takes w s rest → Takes w s' rest') → ColonNumber Takes w s rest → Front (ColonNumber Takes w) s rest
colon-front Takes anywhere (colon {w = w} {s₂ = s₂} {rest = rest} bl gap n short) =
    front_as (Then (BlanksAnd 58) (Then Blanks (Number w))) (ColonNumber Takes w)
    (λ s behind h. colon h.first h.second.first h.second.second (anywhere w s₂ rest h.second.mid behind short))
    (front-then (BlanksAnd 58) (Then Blanks (Number w)) (byte-front 58 bl) (front-then Blanks (Number w) (blanks-front gap) (number-front n)))

module _ (R : Rules) (placeless : Placeless R) where
  pub numbers-front : {d b s rest : List ℕ} → Numbers R d b s rest → Front (Numbers R d b) s rest
  numbers-front {s = s} nothing = front_none (Numbers R [] []) s (λ s. nothing)
  numbers-front (distance {d = d} c) =
      front_as (ColonNumber R.distance d) (Numbers R d []) (λ s rest c. distance c) (colon-front R.distance placeless.distances c)
  numbers-front (both {d = d} {b = b} c e) =
      front_as (Then (ColonNumber R.distance d) (ColonNumber R.support b)) (Numbers R d b) (λ s rest h. both h.first h.second)
      (front-then (ColonNumber R.distance d) (ColonNumber R.support b) (colon-front R.distance placeless.distances c)
      (colon-front R.support placeless.supports e))
  numbers-front (support {b = b} bl c) =
      front_as (Then (BlanksAnd 58) (ColonNumber R.support b)) (Numbers R [] b) (λ s rest h. support h.first h.second)
      (front-then (BlanksAnd 58) (ColonNumber R.support b) (byte-front 58 bl) (colon-front R.support placeless.supports c))

  pub inner-front : {w s rest : List ℕ} → Inner R w s rest → Front (Inner R w) s rest
  inner-front {s = s} nameless = front_none (Inner R []) s (λ s. nameless)
  inner-front (named {w = w} gap r short) =
      front_as (Then Blanks (Spells w)) (Inner R w) (λ s rest h. named h.first h.second (placeless.inner_names short h.mid rest))
      (front-then Blanks (Spells w) (blanks-front gap) (spells-front r))

  -- ---- nodes

  abbrev NodeFront : ℕ → List ℕ → Tree → List ℕ → Type 0
  NodeFront k s t rest = Front (λ s rest. Node R k s t rest) s rest

  abbrev ChildrenFront : ℕ → List ℕ → Forest → List ℕ → Type 0
  ChildrenFront k s f rest = Front (λ s rest. Children R k s f rest) s rest

  leaf-front :
      (k i : ℕ) (w d b s s₁ s₂ rest : List ℕ) → Blanks s s₁ → Spells w s₁ s₂ → R.leaf_name w i s₁ s₂ → Numbers R d b s₂ rest
      → NodeFront k s (leaf i (record { name = []; distance = d; support = b })) rest
  leaf-front k i w d b s s₁ s₂ rest gap r known behind =
      front_as (Then Blanks (Then (Spells w) (Numbers R d b))) (λ s rest. Node R k s (leaf i (record { name = []; distance = d; support = b })) rest)
      (λ s rest h. a_leaf h.first h.second.first (placeless.leaf_names known h.mid h.second.mid) h.second.second)
      (front-then Blanks (Then (Spells w) (Numbers R d b)) (blanks-front gap)
      (front-then (Spells w) (Numbers R d b) (spells-front r) (numbers-front behind)))

  -- a comma and children
  more_front :
      (k : ℕ) (f : Forest) {s m rest : List ℕ}
      → Blanks s (44 ∷ m) → ChildrenFront k m f rest → Front (Then (BlanksAnd 44) (λ s rest. Children R k s f rest)) s rest
  more_front k f comma q = front-then (BlanksAnd 44) (λ s rest. Children R k s f rest) (byte-front 44 comma) q

  inner-node-front :
      (k : ℕ) (t : Tree) (f : Forest) (w d b s s₁ s₂ s₃ s₄ s₅ rest : List ℕ)
      → Blanks s (40 ∷ s₁) → NodeFront k s₁ t s₂ → Blanks s₂ (44 ∷ s₃) → ChildrenFront k s₃ f s₄ → Inner R w s₄ s₅ → Numbers R d b s₅ rest
      → NodeFront (suc k) s (node t f (record { name = w; distance = d; support = b })) rest
  inner-node-front k t f w d b s s₁ s₂ s₃ s₄ s₅ rest bl p comma q inner behind =
      let First : List ℕ → List ℕ → Type 0 = λ s rest. Node R k s t rest in
      let Others : List ℕ → List ℕ → Type 0 = Then (BlanksAnd 44) (λ s rest. Children R k s f rest) in
      let After : List ℕ → List ℕ → Type 0 = Then (Inner R w) (Numbers R d b) in
      front_as (Then (BlanksAnd 40) (Then First (Then Others After)))
      (λ s rest. Node R (suc k) s (node t f (record { name = w; distance = d; support = b })) rest)
      (λ s rest h.
      let more = h.second.second in
      an_inner h.first h.second.first more.first.first more.first.second more.second.first more.second.second)
      (front-then (BlanksAnd 40) (Then First (Then Others After)) (byte-front 40 bl)
      (front-then First (Then Others After) p
      (front-then Others After (more_front k f comma q)
      (front-then (Inner R w) (Numbers R d b) (inner-front inner) (numbers-front behind)))))

  single-front :
      (k : ℕ) (t : Tree) (w d b s s₁ s₂ s₃ s₄ rest : List ℕ)
      → R.fewest ≤ 1 → Blanks s (40 ∷ s₁) → NodeFront k s₁ t s₂ → Blanks s₂ (41 ∷ s₃) → Inner R w s₃ s₄ → Numbers R d b s₄ rest
      → NodeFront (suc k) s t rest
  single-front k t w d b s s₁ s₂ s₃ s₄ rest enough bl p closes inner behind =
      let Only : List ℕ → List ℕ → Type 0 = Then (λ s rest. Node R k s t rest) (BlanksAnd 41) in
      let After : List ℕ → List ℕ → Type 0 = Then (Inner R w) (Numbers R d b) in
      front_as (Then (BlanksAnd 40) (Then Only After)) (λ s rest. Node R (suc k) s t rest)
      (λ s rest h.
      a_single enough h.first h.second.first.first h.second.first.second h.second.second.first h.second.second.second)
      (front-then (BlanksAnd 40) (Then Only After) (byte-front 40 bl)
      (front-then Only After (front-then (λ s rest. Node R k s t rest) (BlanksAnd 41) p (byte-front 41 closes))
      (front-then (Inner R w) (Numbers R d b) (inner-front inner) (numbers-front behind))))

  front-steps : Steps R NodeFront ChildrenFront
  front-steps =
      record {
        at_leaf = λ k i w d b s s₁ s₂ rest gap r known behind. leaf-front k i w d b s s₁ s₂ rest gap r known behind;
        at_inner = λ k t f w d b s s₁ s₂ s₃ s₄ s₅ rest bl first p comma others q inner behind.
            inner-node-front k t f w d b s s₁ s₂ s₃ s₄ s₅ rest bl p comma q inner behind;
        at_single = λ k t w d b s s₁ s₂ s₃ s₄ rest enough bl only p closes inner behind.
            single-front k t w d b s s₁ s₂ s₃ s₄ rest enough bl p closes inner behind;
        at_last = λ k t s s₁ rest only p closes.
            front_as (Then (λ s rest. Node R k s t rest) (BlanksAnd 41)) (λ s rest. Children R k s (last t) rest)
            (λ s rest h. the_last h.first h.second)
            (front-then (λ s rest. Node R k s t rest) (BlanksAnd 41) p (byte-front 41 closes));
        at_more = λ k t f s s₁ s₂ rest first p comma others q.
            front_as (Then (λ s rest. Node R k s t rest) (Then (BlanksAnd 44) (λ s rest. Children R k s f rest)))
            (λ s rest. Children R k s (more t f) rest)
            (λ s rest h. with_more h.first h.second.first h.second.second)
            (front-then (λ s rest. Node R k s t rest) (Then (BlanksAnd 44) (λ s rest. Children R k s f rest)) p (more_front k f comma q));
      }

  pub node-front : {k : ℕ} {s rest : List ℕ} {t : Tree} → Node R k s t rest → NodeFront k s t rest
  node-front d = over_node R NodeFront ChildrenFront front-steps d

  pub children-front : {k : ℕ} {s rest : List ℕ} {f : Forest} → Children R k s f rest → ChildrenFront k s f rest
  children-front d = over_children R NodeFront ChildrenFront front-steps d

  pub text-front : {k : ℕ} {s rest : List ℕ} {t : Tree} → Text R k s t rest → Front (λ s rest. Text R k s t rest) s rest
  text-front {k} {t = t} (text only ends) =
      front_as (Then (λ s rest. Node R k s t rest) (BlanksAnd 59)) (λ s rest. Text R k s t rest) (λ s rest h. text h.first h.second)
      (front-then (λ s rest. Node R k s t rest) (BlanksAnd 59) (node-front only) (byte-front 59 ends))

  -- bytes behind a node or a tree do not matter
  pub node-elsewhere : {k : ℕ} {t : Tree} (u rest behind : List ℕ) → Node R k (u ++ rest) t rest → Node R k (u ++ behind) t behind
  node-elsewhere {k} {t} u rest behind d = front-elsewhere (λ s rest. Node R k s t rest) u rest behind (node-front d)

  pub children-elsewhere : {k : ℕ} {f : Forest} (u rest behind : List ℕ) → Children R k (u ++ rest) f rest → Children R k (u ++ behind) f behind
  children-elsewhere {k} {f} u rest behind d = front-elsewhere (λ s rest. Children R k s f rest) u rest behind (children-front d)

  pub text-elsewhere : {k : ℕ} {t : Tree} (u rest behind : List ℕ) → Text R k (u ++ rest) t rest → Text R k (u ++ behind) t behind
  text-elsewhere {k} {t} u rest behind d = front-elsewhere (λ s rest. Text R k s t rest) u rest behind (text-front d)

-- ---- rules that allow more

pub record Allows (R R' : Rules) : Type 0 where
  pub leaf_names : (w : List ℕ) (i : ℕ) (s rest : List ℕ) → R.leaf_name w i s rest → R'.leaf_name w i s rest
  pub inner_names : (w s rest : List ℕ) → R.inner_name w s rest → R'.inner_name w s rest
  pub distances : (w s rest : List ℕ) → R.distance w s rest → R'.distance w s rest
  pub supports : (w s rest : List ℕ) → R.support w s rest → R'.support w s rest
  pub singles : R.fewest ≤ 1 → R'.fewest ≤ 1

-- where two nodes are wanted, limits and roster are lifted for any number of nodes
pub lifted_allows : (R : Rules) (least : ℕ) → (R.fewest ≤ 1 → ⊥) → Allows R (lifted_to least)
lifted_allows R least two =
    record {
      leaf_names = λ w i s rest h. tt;
      inner_names = λ w s rest h. tt;
      distances = λ w s rest h. tt;
      supports = λ w s rest h. tt;
      singles = λ enough. absurd (two enough);
    }

pub colon-allowed :
    (Takes Takes' : List ℕ → List ℕ → List ℕ → Type 0) {w s rest : List ℕ}
    → ((w s rest : List ℕ) → Takes w s rest → Takes' w s rest) → ColonNumber Takes w s rest → ColonNumber Takes' w s rest
colon-allowed Takes Takes' allows (colon {w = w} {s₂ = s₂} {rest = rest} bl gap n short) = colon bl gap n (allows w s₂ rest short)

module _ (R R' : Rules) (allows : Allows R R') where
  distance-allowed : {w s rest : List ℕ} → ColonNumber R.distance w s rest → ColonNumber R'.distance w s rest
  distance-allowed c = colon-allowed R.distance R'.distance allows.distances c

  support-allowed : {w s rest : List ℕ} → ColonNumber R.support w s rest → ColonNumber R'.support w s rest
  support-allowed c = colon-allowed R.support R'.support allows.supports c

  pub numbers-allowed : {d b s rest : List ℕ} → Numbers R d b s rest → Numbers R' d b s rest
  numbers-allowed nothing = nothing
  numbers-allowed (distance c) = distance (distance-allowed c)
  numbers-allowed (both c e) = both (distance-allowed c) (support-allowed e)
  numbers-allowed (support bl c) = support bl (support-allowed c)

  pub inner-allowed : {w s rest : List ℕ} → Inner R w s rest → Inner R' w s rest
  inner-allowed nameless = nameless
  inner-allowed (named {w = w} {mid = mid} {rest = rest} gap r short) = named gap r (allows.inner_names w mid rest short)

  allowed-steps : Steps R (Node R') (Children R')
  allowed-steps =
      record {
        at_leaf = λ k i w d b s s₁ s₂ rest gap r known behind. a_leaf gap r (allows.leaf_names w i s₁ s₂ known) (numbers-allowed behind);
        at_inner = λ k t f w d b s s₁ s₂ s₃ s₄ s₅ rest bl first p comma others q inner behind.
            an_inner bl p comma q (inner-allowed inner) (numbers-allowed behind);
        at_single = λ k t w d b s s₁ s₂ s₃ s₄ rest enough bl only p closes inner behind.
            a_single (allows.singles enough) bl p closes (inner-allowed inner) (numbers-allowed behind);
        at_last = λ k t s s₁ rest only p closes. the_last p closes;
        at_more = λ k t f s s₁ s₂ rest first p comma others q. with_more p comma q;
      }

  pub node-allowed : {k : ℕ} {s rest : List ℕ} {t : Tree} → Node R k s t rest → Node R' k s t rest
  node-allowed d = over_node R (Node R') (Children R') allowed-steps d

  pub children-allowed : {k : ℕ} {s rest : List ℕ} {f : Forest} → Children R k s f rest → Children R' k s f rest
  children-allowed d = over_children R (Node R') (Children R') allowed-steps d

  pub text-allowed : {k : ℕ} {s rest : List ℕ} {t : Tree} → Text R k s t rest → Text R' k s t rest
  text-allowed (text only ends) = text (node-allowed only) ends

-- with limits and roster lifted, what was a tree is one
pub strict-lifted : (given : Bool) (names : List (List ℕ)) → Allows (strict given names) lifted
strict-lifted given names = lifted_allows (strict given names) 2 two_wanted

pub lift_node : (given : Bool) (names : List (List ℕ)) {k : ℕ} {s rest : List ℕ} {t : Tree} → Node (strict given names) k s t rest → Node lifted k s t rest
lift_node given names d = node-allowed (strict given names) lifted (strict-lifted given names) d

pub lift_text : (given : Bool) (names : List (List ℕ)) {k : ℕ} {s rest : List ℕ} {t : Tree} → Text (strict given names) k s t rest → Text lifted k s t rest
lift_text given names d = text-allowed (strict given names) lifted (strict-lifted given names) d

-- and it stays one where a parenthesis may have fewer nodes
module _ (least : ℕ) where
  pub loosen-node : {k : ℕ} {s rest : List ℕ} {t : Tree} → Node lifted k s t rest → Node (lifted_to least) k s t rest
  loosen-node d = node-allowed lifted (lifted_to least) (lifted_allows lifted least two_wanted) d

  pub loosen-children : {k : ℕ} {s rest : List ℕ} {f : Forest} → Children lifted k s f rest → Children (lifted_to least) k s f rest
  loosen-children d = children-allowed lifted (lifted_to least) (lifted_allows lifted least two_wanted) d

  pub loosen-inner : {w s rest : List ℕ} → Inner lifted w s rest → Inner (lifted_to least) w s rest
  loosen-inner d = inner-allowed lifted (lifted_to least) (lifted_allows lifted least two_wanted) d

  pub loosen-text : {k : ℕ} {s rest : List ℕ} {t : Tree} → Text lifted k s t rest → Text (lifted_to least) k s t rest
  loosen-text d = text-allowed lifted (lifted_to least) (lifted_allows lifted least two_wanted) d
