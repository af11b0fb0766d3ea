-- What may stand behind the bytes read so far: each token that is read leaves a place where the next may stand.
use Prim.Native.Nat.{ℕ, suc, ◌+◌, ◌≤◌, ◌<◌}
use mathlib.Core.Path.{◌≡◌, refl, ap, ◌∙◌}
use mathlib.Core.Bool.{false}
use mathlib.Core.List.{List, [], ◌∷◌, ◌++◌, append_assoc, append-nil}
use native.Mathlib.Omega.{arith}
use lib.ListN.{length, length-append}
use Rattle.labels.specs.Bytes.{next_label}
use Rattle.labels.specs.Spelling.{Spells}
use Rattle.labels.specs.Spelling.Run.{one}
use Rattle.labels.specs.Spelling.Spells.{bare}
use Rattle.labels.proofs.LabelFronts.{Front, spells-front}
use Rattle.labels.proofs.RunRules.{run_some}
use Rattle.trees.specs.Tree.{Tree, Forest}
use Rattle.trees.specs.Tree.Tree.{leaf}
use Rattle.nodes.specs.Grammar.{Rules, lifted_to, lifted, loosest, Blanks, Number, ColonNumber, Numbers, Inner, Node, Children}
use Rattle.nodes.specs.Grammar.Blanks.{none, blank}
use Rattle.nodes.specs.Grammar.Number.{whole, decimal}
use Rattle.nodes.specs.Grammar.ColonNumber.{colon}
use Rattle.nodes.specs.Grammar.Numbers.{nothing, distance, both, support}
use Rattle.nodes.specs.Grammar.Inner.{nameless, named}
use Rattle.nodes.specs.Grammar.Node.{a_leaf, an_inner, a_single}
use Rattle.nodes.specs.Grammar.Children.{the_last, with_more}
use Rattle.nodes.specs.Grammar.Text.{text}
use Rattle.meanings.specs.Meaning.{IsText, IsNode, IsNumber, MayStand, NodeMayStand, NameMayStand, NumberMayStand, distances_before, SupportMayStand}
use Rattle.nodes.proofs.Derivations.{two_wanted}
use Rattle.nodes.proofs.Deeper.{node_deeper, children_deeper}
use Rattle.nodes.proofs.Fronts.{Then, BlanksAnd, lifted_placeless, lifted_allows, front-then, blanks-front, byte-front, number-front, node-front, children-front, text-allowed, loosen-node}
use Rattle.meanings.proofs.KeptRules.{number_size, Takes, distance-taken, inner-taken, node-taken, children-taken}

-- what a front leaves is no longer
pub front_shorter : {X : List ℕ → List ℕ → Type 0} {s rest : List ℕ} → Front X s rest → length rest ≤ length s
front_shorter {s = s} {rest = rest} f =
    let e : length s ≡ length f.bytes + length rest = ap length f.split ∙ length-append f.bytes rest in
    omega arith

-- ---- pieces of texts by any rules, from s up to rest

-- a node
abbrev pub NodeIn : Rules → List ℕ → List ℕ → Type 0
NodeIn R s rest = (k : ℕ) × (t : Tree) × Node R k s t rest

-- a name
abbrev pub NameIn : Rules → List ℕ → List ℕ → Type 0
NameIn R s rest = (w : List ℕ) × (mid : List ℕ) × Blanks s mid × Spells w mid rest

-- a number, as a distance that these rules take
abbrev pub DistanceIn : Rules → List ℕ → List ℕ → Type 0
DistanceIn R s rest = (w : List ℕ) × (mid : List ℕ) × Blanks s mid × Number w mid rest × R.distance w mid rest

-- a number, as a support
abbrev pub SupportIn : Rules → List ℕ → List ℕ → Type 0
SupportIn R s rest = (w : List ℕ) × (mid : List ℕ) × Blanks s mid × Number w mid rest

-- the children behind a first comma, up to and with the closing parenthesis
abbrev pub ChildrenIn : Rules → List ℕ → List ℕ → Type 0
ChildrenIn R s rest = (k : ℕ) × (f : Forest) × Children R k s f rest

-- what stands behind a leaf's name
abbrev pub NumbersIn : Rules → List ℕ → List ℕ → Type 0
NumbersIn R s rest = (d : List ℕ) × (b : List ℕ) × Numbers R d b s rest

-- what stands behind a closing parenthesis
abbrev pub ClosingIn : Rules → List ℕ → List ℕ → Type 0
ClosingIn R s rest = (w : List ℕ) × (mid : List ℕ) × Inner R w s mid × NumbersIn R mid rest

abbrev pub NodeOf : ℕ → Tree → List ℕ → List ℕ → Type 0
NodeOf k t s rest = Node lifted k s t rest

abbrev pub ChildrenOf : ℕ → Forest → List ℕ → List ℕ → Type 0
ChildrenOf k f s rest = Children lifted k s f rest

-- ---- rules that take every name and support, and every distance that does not stand in the last n bytes

-- what such rules take
pub record Free (n : ℕ) (R : Rules) : Type 0 where
  pub leaf_names : (w : List ℕ) (i : ℕ) (s rest : List ℕ) → R.leaf_name w i s rest
  pub inner_names : (w s rest : List ℕ) → R.inner_name w s rest
  pub distances : (w s rest : List ℕ) → n < length s → R.distance w s rest
  pub supports : (w s rest : List ℕ) → R.support w s rest

-- with limits and roster lifted, all is taken
pub lifted_free : (n least : ℕ) → Free n (lifted_to least)
lifted_free n least =
    record { leaf_names = λ w i s rest. tt; inner_names = λ w s rest. tt; distances = λ w s rest l. tt; supports = λ w s rest. tt }

before_free : (n : ℕ) → Free n (distances_before n)
before_free n =
    record { leaf_names = λ w i s rest. tt; inner_names = λ w s rest. tt; distances = λ w s rest l. l; supports = λ w s rest. tt }

-- the last bytes of more
free_further : {n m : ℕ} {R : Rules} → n ≤ m → Free n R → Free m R
free_further l free =
    record {
      leaf_names = free.leaf_names;
      inner_names = free.inner_names;
      distances = λ w s rest h. free.distances w s rest (omega arith);
      supports = free.supports;
    }

number_some : {w s rest : List ℕ} → Number w s rest → length rest < length s
number_some (whole r) = omega (arith, run_some r, number_size (whole r))
number_some (decimal {v = v} {w = w} r u) = omega (arith, run_some r, number_size (decimal r u), length-append v (46 ∷ w))

-- what was read before them, with limits and roster lifted
free_takes : {n : ℕ} {R : Rules} → Free n R → Takes n lifted R
free_takes free =
    record {
      leaf_names = λ {w} {s} {rest} i r l h. free.leaf_names w i s rest;
      inner_names = λ {w} {s} {rest} r l h. free.inner_names w s rest;
      distances = λ {w} {s} {rest} d l h. free.distances w s rest (omega (arith, number_some d));
      supports = λ {w} {s} {rest} d l h. free.supports w s rest;
      singles = λ enough. absurd (two_wanted enough);
    }

-- ---- one place after another

-- the rules that are lifted: with parentheses of at least so many nodes, and with no distance in the last bytes
pub data Lifting : Type 0 where
  to_least : ℕ → Lifting
  before_last : ℕ → Lifting

-- the rules that it stands for
abbrev pub rules_of : Lifting → Rules
rules_of (to_least least) = lifted_to least
rules_of (before_last m) = distances_before m

-- behind u such a piece may stand: with one and the same end behind it, it makes a text by those rules that take the distances before it
pub record Stand (P : Rules → List ℕ → List ℕ → Type 0) (u : List ℕ) : Type 0 where
  pub end : List ℕ
  pub apart : next_label end ≡ false
  pub text : (l : Lifting) (x : List ℕ) → Free (length x) (rules_of l) → P (rules_of l) x end → IsText (rules_of l) (u ++ x)

-- an end y that begins with no label stands apart, whatever stands behind it
pub ends_apart : (y end : List ℕ) → next_label y ≡ false → next_label end ≡ false → next_label (y ++ end) ≡ false
unfolding next_label
ends_apart [] end a e = e
ends_apart (b ∷ y) end a e = a

-- behind what X takes off, a Q with the end y may stand where X, a Q and y make a P
stand-before :
    (P Q : Rules → List ℕ → List ℕ → Type 0) (X : List ℕ → List ℕ → Type 0) (y : List ℕ) {u s rest : List ℕ} → next_label y ≡ false
    → ((R : Rules) (s v rest : List ℕ) → Free (length v) R → X s v → Q R v (y ++ rest) → P R s rest) → Stand P u → (f : Front X s rest)
    → Stand Q (u ++ f.bytes)
stand-before P Q X y {u} ends made may f =
    let x = f.bytes in
    record {
      end = y ++ may.end;
      apart = ends_apart y may.end ends may.apart;
      text = λ l v free q.
          rw (append_assoc u x v)
          (may.text l (x ++ v) (free_further (omega (arith, length-append x v)) free) (made (rules_of l) (x ++ v) v may.end free (f.anywhere v) q));
    }

-- the same without an end
pub stand_on :
    (P Q : Rules → List ℕ → List ℕ → Type 0) (X : List ℕ → List ℕ → Type 0) {u s rest : List ℕ}
    → ((R : Rules) (s v rest : List ℕ) → Free (length v) R → X s v → Q R v rest → P R s rest) → Stand P u → (f : Front X s rest) → Stand Q (u ++ f.bytes)
unfolding next_label
stand_on P Q X made may f = stand-before P Q X [] refl made may f

-- a Q may stand where with y behind it it is a P
stand_as :
    (P Q : Rules → List ℕ → List ℕ → Type 0) (y : List ℕ) {u : List ℕ} → next_label y ≡ false
    → ((R : Rules) (v rest : List ℕ) → Free (length v) R → Q R v (y ++ rest) → P R v rest) → Stand P u → Stand Q u
stand_as P Q y ends made may =
    record {
      end = y ++ may.end;
      apart = ends_apart y may.end ends may.apart;
      text = λ l v free q. may.text l v free (made (rules_of l) v may.end free q);
    }

-- a whole piece, whatever stands behind it
pub whole_on : (X : List ℕ → List ℕ → Type 0) {v : List ℕ} (y : List ℕ) → Front X v [] → X (v ++ y) y
whole_on X {v} y f = let e : v ≡ f.bytes = f.split ∙ append-nil f.bytes in rw e (f.anywhere y)

pub blanks_on : {s m rest : List ℕ} → Blanks s m → Blanks m rest → Blanks s rest
blanks_on none e = e
blanks_on (blank is d) e = blank is (blanks_on d e)

-- ---- what makes what

-- blanks before a node go with it
pub node-behind-blanks : {R : Rules} {k : ℕ} {t : Tree} {s v rest : List ℕ} → Blanks s v → Node R k v t rest → Node R k s t rest
node-behind-blanks bl (a_leaf gap r known behind) = a_leaf (blanks_on bl gap) r known behind
node-behind-blanks bl (an_inner gap first comma others inner behind) = an_inner (blanks_on bl gap) first comma others inner behind
node-behind-blanks bl (a_single enough gap only closes inner behind) = a_single enough (blanks_on bl gap) only closes inner behind

-- bytes that follow
followed : (b : ℕ) {s v : List ℕ} → Blanks s (b ∷ v) → length v ≤ length s
followed b bl = front_shorter (byte-front b bl)

-- the leaf `a`
a_node : {n : ℕ} {R : Rules} → Free n R → (k : ℕ) (y : List ℕ) → Node R k (97 ∷ y) (leaf 0 (record { name = []; distance = []; support = [] })) y
a_node free k y = a_leaf none (bare (one refl)) (free.leaf_names (97 ∷ []) 0 (97 ∷ y) y) nothing

-- a child that was read, in a deeper place, with at least n bytes behind it
child-read :
    {n : ℕ} {R : Rules} → Free n R → (m : ℕ) {k : ℕ} {t : Tree} {x y : List ℕ} → k ≤ m → NodeOf k t x y → n ≤ length y → Node R m x t y
child-read {n} {R} free m l d left = node_deeper R m l (node-taken n lifted R (free_takes free) d left)

-- v is what is left of s behind the piece that was read, and rest what is left behind the whole
module _ (R : Rules) (s v rest : List ℕ) (free : Free (length v) R) where
  pub blanks-node : Blanks s v → NodeIn R v rest → NodeIn R s rest
  blanks-node bl n = (n.0, n.1, node-behind-blanks bl n.2)

  -- `(`, a node and `,a)`
  opened-node : BlanksAnd 40 s v → NodeIn R v (44 ∷ 97 ∷ 41 ∷ rest) → NodeIn R s rest
  opened-node bl n = (suc n.0, _, an_inner bl n.2 none (the_last (a_node free n.0 (41 ∷ rest)) none) nameless nothing)

  pub blanks-name : Blanks s v → NameIn R v rest → NameIn R s rest
  blanks-name bl n = (n.0, n.1, blanks_on bl n.2, n.3)

  -- a support behind blanks
  pub blanks-support : Blanks s v → SupportIn R v rest → SupportIn R s rest
  blanks-support bl n = (n.0, n.1, blanks_on bl n.2, n.3)

  -- behind a colon
  colon-number : BlanksAnd 58 s v → DistanceIn R v rest → NumbersIn R s rest
  colon-number bl n = (_, _, distance (colon bl n.2 n.3 n.4))

  -- behind two colons
  colons-number : Then (BlanksAnd 58) (BlanksAnd 58) s v → SupportIn R v rest → NumbersIn R s rest
  colons-number h n = (_, _, support h.first (colon h.second n.2 n.3 (free.supports n.0 n.1 rest)))

-- the piece that was read has a child t
module _ (k : ℕ) (t : Tree) (R : Rules) (s v rest : List ℕ) (free : Free (length v) R) where
  -- `(`, a child and `,`; then the other children
  pub comma-children : Then (Then (BlanksAnd 40) (NodeOf k t)) (BlanksAnd 44) s v → ChildrenIn R v rest → NodeIn R s rest
  comma-children h c =
      let m = k + c.0 in (
        suc m,
        _,
        an_inner h.first.first (child-read free m (omega arith) h.first.second (followed 44 h.second)) h.second
            (children_deeper R m (omega arith) c.2) nameless nothing,
      )

  -- a later child
  pub child-comma : Then (NodeOf k t) (BlanksAnd 44) s v → ChildrenIn R v rest → ChildrenIn R s rest
  child-comma h c =
      let m = k + c.0 in
      (m, _, with_more (child-read free m (omega arith) h.first (followed 44 h.second)) h.second (children_deeper R m (omega arith) c.2))

-- `(` and all the children; then what closes it
pub children-closing :
    (k l : ℕ) (t : Tree) (f : Forest) (R : Rules) (s v rest : List ℕ) → Free (length v) R
    → Then (Then (Then (BlanksAnd 40) (NodeOf k t)) (BlanksAnd 44)) (ChildrenOf l f) s v → ClosingIn R v rest → NodeIn R s rest
children-closing k l t f R s v rest free h c =
    let m = k + l in
    let opening = h.first in
    let others = children-front lifted (lifted_placeless 2) h.second in (
      suc m,
      _,
      an_inner opening.first.first
          (child-read free m (omega arith) opening.first.second (omega (arith, followed 44 opening.second, front_shorter others))) opening.second
          (children_deeper R m (omega arith) (children-taken (length v) lifted R (free_takes free) h.second (omega arith))) c.2 c.3.2,
    )

-- the piece that was read has the name or the number w
module _ (w : List ℕ) (R : Rules) (s v rest : List ℕ) (free : Free (length v) R) where
  -- a leaf's name; then its numbers
  pub leaf-numbers : Spells w s v → NumbersIn R v rest → NodeIn R s rest
  leaf-numbers r n = (0, _, a_leaf none r (free.leaf_names w 0 s v) n.2)

  -- the name behind a closing parenthesis; then the numbers
  pub closing-numbers : Inner lifted w s v → NumbersIn R v rest → ClosingIn R s rest
  closing-numbers i n = (w, v, (inner-taken (length v) lifted R (free_takes free) i (omega arith)).taken, n)

  -- behind a distance and a colon
  second_number_lem : Then (ColonNumber lifted.distance w) (BlanksAnd 58) s v → SupportIn R v rest → NumbersIn R s rest
  second_number_lem h n =
      let c = (distance-taken (length v) lifted R (free_takes free) h.first (followed 58 h.second)).taken in
      (_, _, both c (colon h.second n.2 n.3 (free.supports n.0 n.1 rest)))

module _ (R : Rules) (v rest : List ℕ) (free : Free (length v) R) where
  last_child : NodeIn R v (41 ∷ rest) → ChildrenIn R v rest
  last_child n = (n.0, _, the_last n.2 none)

  -- a name is a node by itself
  pub name-node : NameIn R v rest → NodeIn R v rest
  name-node n = (0, _, a_leaf n.2 n.3 (free.leaf_names n.0 0 n.1 rest) nothing)

  -- and it stands behind a closing parenthesis
  closing-name : NameIn R v rest → ClosingIn R v rest
  closing-name n = (n.0, rest, named n.2 n.3 (free.inner_names n.0 n.1 rest), ([], [], nothing))

-- the whole text: a node, blanks and `;`
pub node_at_front : Stand NodeIn []
node_at_front =
    record { end = 59 ∷ []; apart = unfold next_label in refl; text = λ l x free n. (n.0, n.1, text n.2 none) }

-- behind `(` a node may stand
pub opened-stand : {u s rest : List ℕ} → Stand NodeIn u → (f : Front (BlanksAnd 40) s rest) → Stand NodeIn (u ++ f.bytes)
unfolding next_label
opened-stand may f = stand-before NodeIn NodeIn (BlanksAnd 40) (44 ∷ 97 ∷ 41 ∷ []) refl opened-node may f

-- where children may stand, a last one may
pub last_stand : {u : List ℕ} → Stand ChildrenIn u → Stand NodeIn u
unfolding next_label
last_stand may = stand_as ChildrenIn NodeIn (41 ∷ []) refl last_child may

-- a leaf's name, and the name behind a closing parenthesis
pub leaf-name-stand : {u : List ℕ} → Stand NodeIn u → Stand NameIn u
unfolding next_label
leaf-name-stand may = stand_as NodeIn NameIn [] refl name-node may

pub inner-name-stand : {u : List ℕ} → Stand ClosingIn u → Stand NameIn u
unfolding next_label
inner-name-stand may = stand_as ClosingIn NameIn [] refl closing-name may

-- ---- with limits and roster lifted

-- by rules with limits and roster lifted, a piece may stand if it is one before any end
stand-lifted :
    (P : Rules → List ℕ → List ℕ → Type 0) (Piece : List ℕ → Type 0) {u : List ℕ}
    → ((v y : List ℕ) → Piece v → P lifted (v ++ y) y) → Stand P u → MayStand lifted Piece u
stand-lifted P Piece {u} made may =
    record {
      end = may.end;
      apart = may.apart;
      text = λ v p.
          let x = v ++ may.end in
          rw (append_assoc u v may.end) (may.text (to_least 2) x (lifted_free (length x) 2) (made v may.end p));
    }

-- where a node may stand by all rules that are free, one may by those that are lifted
pub node_may : {u : List ℕ} → Stand NodeIn u → NodeMayStand u
node_may may =
    stand-lifted NodeIn (λ v. NodeIn lifted v [])
    (λ v y n. (n.0, n.1, whole_on (NodeOf n.0 n.1) y (node-front lifted (lifted_placeless 2) n.2))) may

-- and a name
pub name_may : {u : List ℕ} → Stand NameIn u → NameMayStand u
name_may may =
    stand-lifted NameIn (λ v. NameIn lifted v [])
    (λ v y n.
    let h = whole_on (Then Blanks (Spells n.0)) y (front-then Blanks (Spells n.0) (blanks-front n.2) (spells-front n.3)) in
    (n.0, h.mid, h.first, h.second)) may

-- a number and blanks before it, whatever stands behind
number_on : (v y : List ℕ) → IsNumber v → SupportIn lifted (v ++ y) y
number_on v y n =
    let h = whole_on (Then Blanks (Number n.0)) y (front-then Blanks (Number n.0) (blanks-front n.2) (number-front n.3)) in
    (n.0, h.mid, h.first, h.second)

-- behind a colon a number may stand
pub distance_may : {u s rest : List ℕ} → Stand NumbersIn u → (f : Front (BlanksAnd 58) s rest) → NumberMayStand (u ++ f.bytes)
distance_may may f =
    stand-lifted DistanceIn IsNumber (λ v y n. let h = number_on v y n in (h.0, h.1, h.2, h.3, tt))
    (stand_on NumbersIn DistanceIn (BlanksAnd 58) colon-number may f)

-- behind two colons a support may stand
pub colons-stand : {u s rest : List ℕ} → Stand NumbersIn u → (f : Front (Then (BlanksAnd 58) (BlanksAnd 58)) s rest) → Stand SupportIn (u ++ f.bytes)
colons-stand may f = stand_on NumbersIn SupportIn (Then (BlanksAnd 58) (BlanksAnd 58)) colons-number may f

-- behind a distance and a colon
pub second-stand :
    (d : List ℕ) {u s rest : List ℕ} → Stand NumbersIn u → (f : Front (Then (ColonNumber lifted.distance d) (BlanksAnd 58)) s rest)
    → Stand SupportIn (u ++ f.bytes)
second-stand d may f = stand_on NumbersIn SupportIn (Then (ColonNumber lifted.distance d) (BlanksAnd 58)) (second_number_lem d) may f

-- where a support may stand by all rules that are free, one may with no distance from there on
pub support_may : {u : List ℕ} → Stand SupportIn u → SupportMayStand u
support_may {u} may =
    record {
      end = may.end;
      apart = may.apart;
      text = λ v n.
          let x = v ++ may.end in
          rw (append_assoc u v may.end) (may.text (before_last (length x)) x (before_free (length x)) (number_on v may.end n));
    }

-- where a support may stand, a number may
pub support-number : {u : List ℕ} → SupportMayStand u → NumberMayStand u
support-number may =
    record {
      end = may.end;
      apart = may.apart;
      text = λ v n.
          let t = may.text v n in
          let R = distances_before (length (v ++ may.end)) in
          (t.0, t.1, text-allowed R lifted (lifted_allows R 2 two_wanted) t.2);
    }

-- blanks before a number
blanks-number : {s v : List ℕ} → Blanks s v → IsNumber v → IsNumber s
blanks-number bl n = (n.0, n.1, blanks_on bl n.2, n.3)

-- where a number may stand, one may behind blanks
pub number-behind-blanks : {u s rest : List ℕ} → NumberMayStand u → (f : Front Blanks s rest) → NumberMayStand (u ++ f.bytes)
number-behind-blanks {u} may f =
    record {
      end = may.end;
      apart = may.apart;
      text = λ v n. rw (append_assoc u f.bytes v) (may.text (f.bytes ++ v) (blanks-number (f.anywhere v) n));
    }

-- `(`, a child and blanks, with `)` behind, where a single child may stand
pub only_child :
    (k : ℕ) (t : Tree) (s rest : List ℕ) → Then (Then (BlanksAnd 40) (NodeOf k t)) Blanks s (41 ∷ rest) → NodeIn loosest s rest
only_child k t s rest h = (suc k, t, a_single (omega arith) h.first.first (loosen-node 1 h.first.second) h.second nameless nothing)

-- the node `(a,a)`
pub opening-node : IsNode lifted (40 ∷ 97 ∷ 44 ∷ 97 ∷ 41 ∷ [])
opening-node =
    (1, _, an_inner none (a_node (lifted_free 0 2) 0 (44 ∷ 97 ∷ 41 ∷ [])) none (the_last (a_node (lifted_free 0 2) 0 (41 ∷ [])) none) nameless nothing)
