-- What may stand behind the bytes read so far, with nothing at fault before a place: each token that is read leaves a place where the next may stand.
use Prim.Native.Nat.{ℕ, suc, ◌-◌, ◌≤◌, ◌<◌, max, zero-le}
use native.Mathlib.Omega.{arith}
use mathlib.Core.Path.{◌≡◌, refl, ap}
use mathlib.Core.Bool.{Bool, false}
use mathlib.Core.List.{List, [], ◌∷◌, ◌++◌, append_assoc}
use lib.ListN.{length, take, length-append}
use Rattle.clusters.specs.Sets.{union}
use Rattle.labels.specs.Bytes.{next_label}
use Rattle.labels.specs.Spelling.{Spells}
use Rattle.labels.specs.Spelling.Run.{one}
use Rattle.labels.specs.Spelling.Spells.{bare}
use Rattle.labels.specs.Labels.{label_bytes, letters}
use Rattle.labels.proofs.LabelFronts.{Front}
use Rattle.labels.proofs.Cut.{no_letters}
use Rattle.trees.specs.Lists.{NoneTwice}
use Rattle.trees.specs.Tree.{Tree, Forest, leaves, leaves_of, cluster}
use Rattle.trees.specs.Tree.Tree.{leaf, node}
use Rattle.trees.specs.Tree.Forest.{last, more}
use Rattle.trees.proofs.Nodes.{leaf-has}
use Rattle.roster.specs.Roster.{position}
use Rattle.tokens.specs.Tokens.{number_bytes}
use Rattle.tokens.specs.Supports.{refuses_fine}
use Rattle.nodes.specs.Grammar.{strict, Blanks, Number, ColonNumber, Numbers, Inner, Node, Children, Text}
use Rattle.nodes.specs.Grammar.Blanks.{none}
use Rattle.nodes.specs.Grammar.ColonNumber.{colon}
use Rattle.nodes.specs.Grammar.Numbers.{nothing, distance, both, support}
use Rattle.nodes.specs.Grammar.Inner.{nameless, named}
use Rattle.nodes.specs.Grammar.Node.{a_leaf, an_inner}
use Rattle.nodes.specs.Grammar.Children.{the_last, with_more}
use Rattle.nodes.specs.Grammar.Text.{text}
use Rattle.nodes.proofs.Fronts.{Then, BlanksAnd}
use Rattle.meanings.specs.Meaning.{part_before, kept_to, known}
use Rattle.meanings.proofs.MeaningContexts.{blanks_on, node-behind-blanks}
use Rattle.meanings.proofs.KeptRules.{strict_takes, node-taken, children-taken, inner-taken, distance-taken}
use Rattle.meanings.proofs.FreshSpecies.{Fresh, unknown-fresh, fresh-unknown, fresh-joins}

-- a whole text that is kept up to m bytes before its end
pub record KeptText (given : Bool) (names : List (List ℕ)) (most : ℕ) (m : ℕ) (s : List ℕ) : Type 0 where
  pub tree : Tree
  pub text : Text (kept_to given names m) most s tree []
  pub once : NoneTwice (known names tree)

-- behind u such a piece may stand: with one and the same end behind it, which goes on with no label, it makes a kept text, whatever the place before that end
pub record MayFollow (given : Bool) (names : List (List ℕ)) (most : ℕ) (P : ℕ → List ℕ → List ℕ → Type 0) (u : List ℕ) : Type 0 where
  pub end : List ℕ
  pub some : 1 ≤ length end
  pub stops : next_label end ≡ false
  pub text : (m : ℕ) → length end ≤ m → (v : List ℕ) → P m (v ++ end) end → KeptText given names most m (u ++ (v ++ end))

-- ---- pieces that are kept up to m bytes before the end of the text

-- a node, in which at most `room` parentheses are open, and none of whose species was seen
pub record NodeIn (given : Bool) (names : List (List ℕ)) (room seen m : ℕ) (s rest : List ℕ) : Type 0 where
  pub tree : Tree
  pub derives : Node (kept_to given names m) room s tree rest
  pub fresh : Fresh names seen (leaves tree)

-- children behind a first comma
pub record ChildrenIn (given : Bool) (names : List (List ℕ)) (room seen m : ℕ) (s rest : List ℕ) : Type 0 where
  pub forest : Forest
  pub derives : Children (kept_to given names m) room s forest rest
  pub fresh : Fresh names seen (leaves_of forest)

-- what stands behind a leaf's name
pub record NumbersIn (given : Bool) (names : List (List ℕ)) (m : ℕ) (s rest : List ℕ) : Type 0 where
  pub d : List ℕ
  pub b : List ℕ
  pub derives : Numbers (kept_to given names m) d b s rest

-- what stands behind a closing parenthesis
pub record ClosingIn (given : Bool) (names : List (List ℕ)) (m : ℕ) (s rest : List ℕ) : Type 0 where
  pub w : List ℕ
  pub mid : List ℕ
  pub inner : Inner (kept_to given names m) w s mid
  pub behind : NumbersIn given names m mid rest

-- the name of an inner node
pub record NameIn (names : List (List ℕ)) (m : ℕ) (s rest : List ℕ) : Type 0 where
  pub w : List ℕ
  pub spelled : Spells w s rest
  pub short : length (letters (part_before m s rest)) ≤ label_bytes

-- a number, blanks before it, that may be a support
pub record NumberIn (given : Bool) (m : ℕ) (s rest : List ℕ) : Type 0 where
  pub w : List ℕ
  pub mid : List ℕ
  pub gap : Blanks s mid
  pub derives : Number w mid rest
  pub short : length (part_before m mid rest) ≤ number_bytes
  pub not_fine : m ≤ length rest → refuses_fine given w ≡ false

-- ---- one place after another

-- a Q may stand where with c ∷ y behind it it is a P
pub stand_as :
    (given : Bool) (names : List (List ℕ)) {most : ℕ} (P Q : ℕ → List ℕ → List ℕ → Type 0) {u : List ℕ} (c : ℕ) (y : List ℕ) → next_label (c ∷ y) ≡ false
    → ((m : ℕ) (v rest : List ℕ) → length (c ∷ (y ++ rest)) ≤ m → Q m v (c ∷ (y ++ rest)) → P m v rest) → MayFollow given names most P u → MayFollow given names most Q u
unfolding next_label
stand_as given names P Q c y stops made may =
    let end = may.end in
    record {
      end = c ∷ (y ++ end);
      some = omega arith;
      stops = stops;
      text = λ m l v q.
          let all = v ++ c ∷ (y ++ end) in
          let regrouped : (v ++ c ∷ y) ++ end ≡ all = append_assoc v (c ∷ y) end in
          let longer : length end ≤ length (c ∷ (y ++ end)) = simp length-append (omega arith) in
          let t = may.text m (omega arith) (v ++ c ∷ y) (rw regrouped (made m all end l q)) in
          rw regrouped at t;
    }

module _ (given : Bool) (names : List (List ℕ)) {most : ℕ} (P Q : ℕ → List ℕ → List ℕ → Type 0) (X : List ℕ → List ℕ → Type 0) {u s rest : List ℕ} where
  -- behind what X takes off, a Q may stand where X and a Q make a P
  pub stand_on :
      ((m : ℕ) (s v rest : List ℕ) → X s v → Q m v rest → P m s rest) → MayFollow given names most P u → (f : Front X s rest) → MayFollow given names most Q (u ++ f.bytes)
  stand_on made may f =
      let x = f.bytes in
      let end = may.end in
      record {
        end = end;
        some = may.some;
        stops = may.stops;
        text = λ m l v q.
            let t = may.text m l (x ++ v) (made m ((x ++ v) ++ end) (v ++ end) end (rw append_assoc (f.anywhere (v ++ end))) q) in
            simp append_assoc (simp append_assoc at t);
      }

-- the same with an end c ∷ y behind the Q
pub stand-before :
    (given : Bool) (names : List (List ℕ)) {most : ℕ} (P Q : ℕ → List ℕ → List ℕ → Type 0) (X : List ℕ → List ℕ → Type 0) {u s rest : List ℕ} (c : ℕ) (y : List ℕ)
    → next_label (c ∷ y) ≡ false → ((m : ℕ) (s v rest : List ℕ) → length (c ∷ (y ++ rest)) ≤ m → X s v → Q m v (c ∷ (y ++ rest)) → P m s rest)
    → MayFollow given names most P u → (f : Front X s rest) → MayFollow given names most Q (u ++ f.bytes)
stand-before given names P Q X c y stops made may f =
    let Behind : ℕ → List ℕ → List ℕ → Type 0 = λ m v rest. (s : List ℕ) → X s v → P m s rest in
    stand_as given names Behind Q c y stops (λ m v rest l q s x. made m s v rest l x q) (stand_on given names P Behind X (λ m s v rest x p. p s x) may f)

-- ---- what is written behind the place

-- a token that begins behind the place has nothing before it
pub late : (m : ℕ) (s rest : List ℕ) → length s ≤ m → part_before m s rest ≡ []
late m s rest l = let none_left : length s - max m (length rest) ≡ 0 = omega arith in ap (λ (n : ℕ). take n s) none_left

late-letters : (m : ℕ) (s rest : List ℕ) → length s ≤ m → length (letters (part_before m s rest)) ≤ label_bytes
late-letters m s rest l = rw (late m s rest l, no_letters) zero-le

module _ (given : Bool) (names : List (List ℕ)) where
  -- the leaf that is put behind the place: its species is none of the roster
  abbrev pub unknown_leaf : Tree
  unknown_leaf = leaf (length names) (record { name = []; distance = []; support = [] })

  -- a label that ends behind the place may be any name's
  pub ends_late :
      (m : ℕ) (w s rest : List ℕ) → length (letters (part_before m s rest)) ≤ label_bytes → length rest < m → (kept_to given names m).leaf_name w (length names) s rest
  ends_late m w s rest short l = (short, λ ends. absurd (omega arith))

  -- the leaf `a`
  pub late-leaf : (m k : ℕ) (y : List ℕ) → length (97 ∷ y) ≤ m → Node (kept_to given names m) k (97 ∷ y) unknown_leaf y
  late-leaf m k y l = a_leaf none (bare (one refl)) (ends_late m (97 ∷ []) (97 ∷ y) y (late-letters m (97 ∷ y) y l) (omega arith)) nothing

  pub unknown-leaf-fresh : (seen : ℕ) → Fresh names seen (leaves unknown_leaf)
  unfolding leaves
  unknown-leaf-fresh seen = unknown-fresh names seen

  -- `,a)`, which makes a node of a first child
  pub late-children : (m k : ℕ) (rest : List ℕ) → length (97 ∷ 41 ∷ rest) ≤ m → Children (kept_to given names m) k (97 ∷ 41 ∷ rest) (last unknown_leaf) rest
  late-children m k rest l = the_last (late-leaf m k (41 ∷ rest) l) none

-- ---- what makes what

module _ (given : Bool) (names : List (List ℕ)) where
  pub blanks-node : (room seen m : ℕ) (s v rest : List ℕ) → Blanks s v → NodeIn given names room seen m v rest → NodeIn given names room seen m s rest
  blanks-node room seen m s v rest bl n = record { tree = n.tree; derives = node-behind-blanks bl n.derives; fresh = n.fresh }

  -- `(`, a node and `,a)`
  pub opened-node :
      (room seen m : ℕ) (s v rest : List ℕ) → length (44 ∷ 97 ∷ 41 ∷ rest) ≤ m → BlanksAnd 40 s v → NodeIn given names room seen m v (44 ∷ 97 ∷ 41 ∷ rest)
      → NodeIn given names (suc room) seen m s rest
  unfolding leaves leaves_of
  opened-node room seen m s v rest l bl n =
      record {
        tree = node n.tree (last (unknown_leaf given names)) (record { name = []; distance = []; support = [] });
        derives = an_inner bl n.derives none (late-children given names m room rest (omega arith)) nameless nothing;
        fresh = fresh-unknown names seen (leaves n.tree) n.fresh;
      }

  -- a child that was read, and children that were
  abbrev pub NodeOf : ℕ → Tree → List ℕ → List ℕ → Type 0
  NodeOf room t s rest = Node (strict given names) room s t rest

  abbrev pub ChildrenOf : ℕ → Forest → List ℕ → List ℕ → Type 0
  ChildrenOf room f s rest = Children (strict given names) room s f rest

  pub node_kept : (m : ℕ) {room : ℕ} {t : Tree} {s rest : List ℕ} → NodeOf room t s rest → Node (kept_to given names m) room s t rest
  node_kept m d = node-taken 0 (strict given names) (kept_to given names m) (strict_takes given names m) d zero-le

  -- `(`, a child and `,`; then the other children
  pub comma-children :
      (room seen : ℕ) (t : Tree) → Fresh names seen (leaves t)
      → (m : ℕ) (s v rest : List ℕ) → Then (Then (BlanksAnd 40) (NodeOf room t)) (BlanksAnd 44) s v
      → ChildrenIn given names room (union seen (cluster t)) m v rest
      → NodeIn given names (suc room) seen m s rest
  unfolding leaves
  comma-children room seen t fresh m s v rest h c =
      record {
        tree = node t c.forest (record { name = []; distance = []; support = [] });
        derives = an_inner h.first.first (node_kept m h.first.second) h.second c.derives nameless nothing;
        fresh = fresh-joins names seen (cluster t) (leaves t) (leaves_of c.forest) fresh (leaf-has t) c.fresh;
      }

  -- `(` and all the children; then what closes it
  pub children-closing :
      (room seen : ℕ) (t : Tree) (f : Forest) → Fresh names seen (leaves t ++ leaves_of f)
      → (m : ℕ) (s v rest : List ℕ) → Then (Then (Then (BlanksAnd 40) (NodeOf room t)) (BlanksAnd 44)) (ChildrenOf room f) s v → ClosingIn given names m v rest
      → NodeIn given names (suc room) seen m s rest
  unfolding leaves
  children-closing room seen t f fresh m s v rest h c =
      record {
        tree = node t f (record { name = c.w; distance = c.behind.d; support = c.behind.b });
        derives = an_inner h.first.first.first (node_kept m h.first.first.second) h.first.second
            (children-taken 0 (strict given names) (kept_to given names m) (strict_takes given names m) h.second zero-le) c.inner c.behind.derives;
        fresh = fresh;
      }

  -- a later child and `)`
  pub last_child :
      (room seen m : ℕ) (v rest : List ℕ) → length (41 ∷ rest) ≤ m → NodeIn given names room seen m v (41 ∷ rest) → ChildrenIn given names room seen m v rest
  unfolding leaves_of
  last_child room seen m v rest l n = record { forest = last n.tree; derives = the_last n.derives none; fresh = n.fresh }

  -- a later child and `,`; then more of them
  pub child-comma :
      (room seen : ℕ) (t : Tree) → Fresh names seen (leaves t)
      → (m : ℕ) (s v rest : List ℕ) → Then (NodeOf room t) (BlanksAnd 44) s v → ChildrenIn given names room (union seen (cluster t)) m v rest
      → ChildrenIn given names room seen m s rest
  unfolding leaves_of
  child-comma room seen t fresh m s v rest h c =
      record {
        forest = more t c.forest;
        derives = with_more (node_kept m h.first) h.second c.derives;
        fresh = fresh-joins names seen (cluster t) (leaves t) (leaves_of c.forest) fresh (leaf-has t) c.fresh;
      }

  -- a leaf's name that is on the roster, at its species; then its numbers
  pub leaf-numbers :
      (room seen i : ℕ) (w : List ℕ) → length w ≤ label_bytes → position w names ≡ i → i < length names → Fresh names seen (i ∷ [])
      → (m : ℕ) (s v rest : List ℕ) → Spells w s v → NumbersIn given names m v rest → NodeIn given names room seen m s rest
  unfolding leaves
  leaf-numbers room seen i w short at on fresh m s v rest r n =
      record {
        tree = leaf i (record { name = []; distance = n.d; support = n.b });
        derives = a_leaf none r ((strict_takes given names m).leaf_names i r zero-le (short, at, on)) n.derives;
        fresh = fresh;
      }

  -- behind a closing parenthesis: a name, if any; then numbers
  pub closing-numbers :
      (w : List ℕ) (m : ℕ) (s v rest : List ℕ) → Inner (strict given names) w s v → NumbersIn given names m v rest → ClosingIn given names m s rest
  closing-numbers w m s v rest i n =
      record { w = w; mid = v; inner = (inner-taken 0 (strict given names) (kept_to given names m) (strict_takes given names m) i zero-le).taken; behind = n }

  -- blanks and a name
  pub closing-name : (m : ℕ) (s v rest : List ℕ) → Blanks s v → NameIn names m v rest → ClosingIn given names m s rest
  closing-name m s v rest bl n =
      record { w = n.w; mid = rest; inner = named bl n.spelled n.short; behind = record { d = []; b = []; derives = nothing } }

  -- behind colons
  pub blanks-number : (m : ℕ) (s v rest : List ℕ) → Blanks s v → NumberIn given m v rest → NumberIn given m s rest
  blanks-number m s v rest bl n = record { w = n.w; mid = n.mid; gap = blanks_on bl n.gap; derives = n.derives; short = n.short; not_fine = n.not_fine }

  pub colon-number : (m : ℕ) (s v rest : List ℕ) → BlanksAnd 58 s v → NumberIn given m v rest → NumbersIn given names m s rest
  colon-number m s v rest bl n = record { d = n.w; b = []; derives = distance (colon bl n.gap n.derives n.short) }

  pub colons-number : (m : ℕ) (s v rest : List ℕ) → Then (BlanksAnd 58) (BlanksAnd 58) s v → NumberIn given m v rest → NumbersIn given names m s rest
  colons-number m s v rest h n = record { d = []; b = n.w; derives = support h.first (colon h.second n.gap n.derives (n.short, n.not_fine)) }

  pub second_number_lem :
      (d : List ℕ) (m : ℕ) (s v rest : List ℕ) → Then (ColonNumber (strict given names).distance d) (BlanksAnd 58) s v → NumberIn given m v rest
      → NumbersIn given names m s rest
  second_number_lem d m s v rest h n =
      record {
        d = d;
        b = n.w;
        derives = both (distance-taken 0 (strict given names) (kept_to given names m) (strict_takes given names m) h.first zero-le).taken
            (colon h.second n.gap n.derives (n.short, n.not_fine));
      }

  -- the whole text: a node and `;`
  pub node_at_front : {most : ℕ} → MayFollow given names most (NodeIn given names most 0) []
  unfolding next_label
  node_at_front =
      record {
        end = 59 ∷ [];
        some = omega arith;
        stops = refl;
        text = λ m l v n. record { tree = n.tree; text = text n.derives none; once = n.fresh.once };
      }
