-- What a reading leaves is a drop of the text, and the place moves by as many bytes.
use Prim.Native.Nat.{ℕ, zero, suc, ◌+◌, ◌-◌, ◌*◌, ◌≤◌, ◌<◌}
use mathlib.Core.Path.{◌≡◌, refl, ap, ◌∙◌}
use mathlib.Core.Bool.{Bool, true, false}
use mathlib.Core.List.{List, [], ◌∷◌, tail}
use native.Mathlib.Omega.{arith}
use lib.ListN.{length, take, drop, length-drop}
use lib.Seq.{drop-drop}
use lib.Dec.{leb, ltb}
use Rattle.clusters.specs.Sets.{single, union, apart, within}
use Rattle.labels.specs.Bytes.{is_digit, is_blank, run, next_is, next_label}
use Rattle.labels.specs.Labels.{Told, told}
use Rattle.labels.specs.Labels.Told.{ended as ends_at, faulty}
use Rattle.labels.proofs.Runs.{run-within}
use Rattle.labels.proofs.Spelled.{told_sound, ended-within}
use Rattle.trees.specs.Tree.{Tree, Forest, Behind, cluster}
use Rattle.trees.specs.Tree.Tree.{leaf, node}
use Rattle.trees.specs.Tree.Forest.{more}
use Rattle.roster.specs.Roster.{position}
use Rattle.tokens.specs.Answers.{Answer, and_then, unexpected}
use Rattle.tokens.specs.Answers.Answer.{parsed}
use Rattle.tokens.specs.Tokens.{number_bytes, blanks, skip, limited, numeral, pointed, fraction, digits, number, number_behind}
use Rattle.tokens.specs.Tokens.{second_number, first_number, numbers_by, numbers, name_by, name, inner_name_by, inner_name}
use Rattle.tokens.specs.Supports.{supported}
use Rattle.tokens.proofs.Supports.{supported-parsed}
use Rattle.nodes.specs.Reading.{leaf_new, leaf_known, leaf_at, closing, after_first, opened, node_by, after_child, read_node, read_forest, complete, ended, read_tree_to, read_tree, closing_by, leaf_by, read_forest_by, read_node_by, read_tree_by, read_tree_to_by}
use Rattle.nodes.proofs.Answers.{refused-parsed, and_then-parsed, unexpected-parsed}

-- rest at place q is what count bytes fewer leave of s at place p
pub record Moves (s : List ℕ) (p : ℕ) (rest : List ℕ) (q : ℕ) : Type 0 where
  pub count : ℕ
  pub fits : count ≤ length s
  pub left : rest ≡ drop count s
  pub place : q ≡ p + count

-- the same, by a byte at the least
pub record Advances (s : List ℕ) (p : ℕ) (rest : List ℕ) (q : ℕ) : Type 0 where
  pub moves : Moves s p rest q
  pub some : 0 < moves.count

-- ---- one move after another

pub stays : (s : List ℕ) (p : ℕ) → Moves s p s p
stays s p = record { count = 0; fits = omega arith; left = refl; place = omega arith }

pub moves_on : {s m rest : List ℕ} {p q r : ℕ} → Moves s p m q → Moves m q rest r → Moves s p rest r
moves_on {s} {m} {rest} {p} {q} {r} a b =
    let n = a.count in
    let k = b.count in
    let e : m ≡ drop n s = a.left in
    let l : length m ≡ length s - n = ap length e ∙ length-drop n s in
    record {
      count = n + k;
      fits = omega (arith, a.fits, b.fits);
      left = b.left ∙ (ap (drop k) e ∙ drop-drop k n s);
      place = omega (arith, a.place, b.place);
    }

pub advances_on : {s m rest : List ℕ} {p q r : ℕ} → Advances s p m q → Moves m q rest r → Advances s p rest r
advances_on a b = let m = moves_on a.moves b in record { moves = m; some = omega (arith, a.some, a.moves.place, b.place, m.place) }

pub on_advances : {s m rest : List ℕ} {p q r : ℕ} → Moves s p m q → Advances m q rest r → Advances s p rest r
on_advances a b = let m = moves_on a b.moves in record { moves = m; some = omega (arith, b.some, a.place, b.moves.place, m.place) }

-- how much a move leaves
pub moves-length : {s rest : List ℕ} {p q : ℕ} → Moves s p rest q → q + length rest ≡ p + length s
moves-length {s} {rest} m =
    let n = m.count in
    let l : length rest ≡ length s - n = ap length m.left ∙ length-drop n s in
    omega (arith, m.fits, m.place)

pub advances_shorter : {s rest : List ℕ} {p q : ℕ} → Advances s p rest q → length rest < length s
advances_shorter a = omega (arith, moves-length a.moves, a.some, a.moves.place)

-- ---- blanks, one byte

pub blanks-le : (s : List ℕ) → blanks s ≤ length s
unfolding blanks
blanks-le s = run-within is_blank s

pub skip-drop : (s : List ℕ) → skip s ≡ drop (blanks s) s
unfolding blanks skip
skip-drop s = refl

pub skip-moves : (s : List ℕ) (p : ℕ) → Moves s p (skip s) (p + blanks s)
skip-moves s p = record { count = blanks s; fits = blanks-le s; left = skip-drop s; place = refl }

pub tail-drop : (n : ℕ) (s : List ℕ) → tail (drop n s) ≡ drop (n + 1) s
tail-drop n s = tail_is (drop n s) ∙ drop-drop 1 n s
  where
    tail_is : (l : List ℕ) → tail l ≡ drop 1 l
    tail_is [] = refl
    tail_is (x ∷ l) = refl

pub next_is-tail : (b : ℕ) (s : List ℕ) (p : ℕ) → next_is b s ≡ true → Advances s p (tail s) (p + 1)
unfolding next_is
next_is-tail b [] p e = absurd (let z : ◌≡◌ {A = ℕ} 0 1 = cc in omega arith)
next_is-tail b (c ∷ s) p e = record { moves = record { count = 1; fits = omega arith; left = refl; place = refl }; some = omega arith }

-- a byte behind blanks
pub skip-tail : (b : ℕ) (s : List ℕ) (p : ℕ) → next_is b (skip s) ≡ true → Advances s p (tail (skip s)) (p + blanks s + 1)
skip-tail b s p e = on_advances (skip-moves s p) (next_is-tail b (skip s) (p + blanks s) e)

-- ---- numbers

limited-parsed :
    {A : Type 0} (t : Bool) (p : ℕ) (a : Answer A) {x : A} {rest : List ℕ} {q : ℕ}
    → limited t p a ≡ parsed x rest q → a ≡ parsed x rest q
limited-parsed true p a e = e
limited-parsed false p a e = absurd (refused-parsed e)

numeral_advances :
    (c : ℕ) (s : List ℕ) (p : ℕ) {x rest : List ℕ} {q : ℕ}
    → 0 < c → c ≤ length s → numeral c s p ≡ parsed x rest q → Advances s p rest q
numeral_advances c s p {x} {rest} {q} some fits e =
    let a : parsed (take c s) (drop c s) (p + c) ≡ parsed x rest q = limited-parsed (leb c number_bytes) p (parsed (take c s) (drop c s) (p + c)) e in
    record { moves = record { count = c; fits = fits; left = cc; place = cc }; some = some }

pointed_advances :
    (d e : ℕ) (s : List ℕ) (p : ℕ) {x rest : List ℕ} {q : ℕ}
    → e ≡ run is_digit (drop (d + 1) s) → pointed d e s p ≡ parsed x rest q → Advances s p rest q
pointed_advances d zero s p is h =
    absurd (unexpected-parsed (drop (d + 1) s) (p + (d + 1)) (limited-parsed (leb (d + 1) number_bytes) p (unexpected (drop (d + 1) s) (p + (d + 1))) h))
pointed_advances d (suc e) s p is h =
    let l = run-within is_digit (drop (d + 1) s) in
    let m = length-drop (d + 1) s in
    numeral_advances (d + 1 + suc e) s p (omega arith) (omega arith) h

fraction_advances :
    (t : Bool) (d : ℕ) (s : List ℕ) (p : ℕ) {x rest : List ℕ} {q : ℕ}
    → 0 < d → d ≤ length s → fraction t d s p ≡ parsed x rest q → Advances s p rest q
fraction_advances true d s p some fits h = pointed_advances d (run is_digit (drop (d + 1) s)) s p refl h
fraction_advances false d s p some fits h = numeral_advances d s p some fits h

digits_advances :
    (d : ℕ) (s : List ℕ) (p : ℕ) {x rest : List ℕ} {q : ℕ} → d ≡ run is_digit s → digits d s p ≡ parsed x rest q → Advances s p rest q
digits_advances zero s p is h = absurd (unexpected-parsed s p h)
digits_advances (suc d) s p is h =
    fraction_advances (next_is 46 (drop (suc d) s)) (suc d) s p (omega arith) (omega (arith, run-within is_digit s)) h

pub number_advances : (s : List ℕ) (p : ℕ) {x rest : List ℕ} {q : ℕ} → number s p ≡ parsed x rest q → Advances s p rest q
unfolding number
number_advances s p h = digits_advances (run is_digit s) s p refl h

pub number_behind_advances : (s : List ℕ) (p : ℕ) {x rest : List ℕ} {q : ℕ} → number_behind s p ≡ parsed x rest q → Advances s p rest q
unfolding number_behind
number_behind_advances s p h = on_advances (skip-moves s p) (number_advances (skip s) (p + blanks s) h)

-- what is answered as it stands, stays
parsed-stays : {A : Type 0} {x y : A} {s rest : List ℕ} {p q : ℕ} → parsed x s p ≡ parsed y rest q → Moves s p rest q
parsed-stays {s} {rest} {p} {q} h = record { count = 0; fits = omega arith; left = cc; place = let e : q ≡ p = cc in omega arith }

behind_number_advances :
    (s : List ℕ) (p : ℕ) (f : List ℕ → Behind) {x : Behind} {rest : List ℕ} {q : ℕ}
    → and_then (number_behind s p) (λ b s p. parsed (f b) s p) ≡ parsed x rest q → Advances s p rest q
behind_number_advances s p f h =
    let r = and_then-parsed (number_behind s p) (λ b s p. parsed (f b) s p) h in
    advances_on (number_behind_advances s p r.first) (parsed-stays r.after)

second_number-moves :
    (t : Bool) (w d s : List ℕ) (p : ℕ) {x : Behind} {rest : List ℕ} {q : ℕ}
    → next_is 58 (skip s) ≡ t → second_number t w d s p ≡ parsed x rest q → Moves s p rest q
second_number-moves false w d s p is h = parsed-stays h
second_number-moves true w d s p is h =
    (advances_on (skip-tail 58 s p is)
    (behind_number_advances (tail (skip s)) (p + blanks s + 1) (λ b. record { name = w; distance = d; support = b }) h).moves).moves

first_number-moves :
    (t : Bool) (w s : List ℕ) (p : ℕ) {x : Behind} {rest : List ℕ} {q : ℕ}
    → next_is 58 (skip s) ≡ t → first_number t w s p ≡ parsed x rest q → Moves s p rest q
first_number-moves true w s p is h =
    (advances_on (skip-tail 58 s p is)
    (behind_number_advances (tail (skip s)) (p + blanks s + 1) (λ b. record { name = w; distance = []; support = b }) h).moves).moves
first_number-moves false w s p is h =
    let r = and_then-parsed (number_behind s p) (λ d s p. second_number (next_is 58 (skip s)) w d s p) h in
    (advances_on (number_behind_advances s p r.first) (second_number-moves (next_is 58 (skip r.left)) w r.value r.left r.place refl r.after)).moves

numbers_by-moves :
    (t : Bool) (w s : List ℕ) (p : ℕ) {x : Behind} {rest : List ℕ} {q : ℕ}
    → next_is 58 (skip s) ≡ t → numbers_by t w s p ≡ parsed x rest q → Moves s p rest q
numbers_by-moves false w s p is h = parsed-stays h
numbers_by-moves true w s p is h =
    (advances_on (skip-tail 58 s p is)
    (first_number-moves (next_is 58 (skip (tail (skip s)))) w (tail (skip s)) (p + blanks s + 1) refl h)).moves

pub numbers-moves : (w s : List ℕ) (p : ℕ) {x : Behind} {rest : List ℕ} {q : ℕ} → numbers w s p ≡ parsed x rest q → Moves s p rest q
unfolding numbers
numbers-moves w s p h = numbers_by-moves (next_is 58 (skip s)) w s p refl h

-- the support is judged behind them
pub supported-moves :
    (given : Bool) (w s : List ℕ) (p : ℕ) {x : Behind} {rest : List ℕ} {q : ℕ} → supported given w s p ≡ parsed x rest q → Moves s p rest q
supported-moves given w s p h = numbers-moves w s p (supported-parsed given w s p h).numbers_are

-- ---- names

name_by-moves : (t : Told) (s : List ℕ) (p : ℕ) {x rest : List ℕ} {q : ℕ} → told s ≡ t → name_by t s p ≡ parsed x rest q → Moves s p rest q
name_by-moves (ends_at n) s p is h = moves_on (record { count = n; fits = ended-within s n is; left = refl; place = refl }) (parsed-stays h)
name_by-moves (faulty number d) s p is h = absurd (refused-parsed h)

pub name-moves : (s : List ℕ) (p : ℕ) {x rest : List ℕ} {q : ℕ} → name s p ≡ parsed x rest q → Moves s p rest q
unfolding name
name-moves s p h = name_by-moves (told s) s p refl h

name_by_advances :
    (t : Told) (s : List ℕ) (p : ℕ) {x rest : List ℕ} {q : ℕ}
    → next_label s ≡ true → told s ≡ t → name_by t s p ≡ parsed x rest q → Advances s p rest q
name_by_advances (ends_at n) s p begins is h =
    let e = told_sound s n begins is in
    advances_on (record { moves = record { count = n; fits = e.within; left = refl; place = refl }; some = e.some }) (parsed-stays h)
name_by_advances (faulty number d) s p begins is h = absurd (refused-parsed h)

pub name_advances : (s : List ℕ) (p : ℕ) {x rest : List ℕ} {q : ℕ} → next_label s ≡ true → name s p ≡ parsed x rest q → Advances s p rest q
unfolding name
name_advances s p begins h = name_by_advances (told s) s p begins refl h

inner_name_by-moves :
    (t : Bool) (s : List ℕ) (p : ℕ) {x rest : List ℕ} {q : ℕ} → inner_name_by t s p ≡ parsed x rest q → Moves s p rest q
inner_name_by-moves false s p h = parsed-stays h
inner_name_by-moves true s p h = moves_on (skip-moves s p) (name-moves (skip s) (p + blanks s) h)

pub inner_name-moves : (s : List ℕ) (p : ℕ) {x rest : List ℕ} {q : ℕ} → inner_name s p ≡ parsed x rest q → Moves s p rest q
unfolding inner_name
inner_name-moves s p h = inner_name_by-moves (next_label (skip s)) s p h

-- ---- leaves, and what closes an inner node

leaf_new-moves :
    (given : Bool) (t : Bool) (i begun : ℕ) (s : List ℕ) (p : ℕ) {x : Tree} {rest : List ℕ} {q : ℕ}
    → leaf_new given t i begun s p ≡ parsed x rest q → Moves s p rest q
leaf_new-moves given false i begun s p h = absurd (refused-parsed h)
leaf_new-moves given true i begun s p h =
    let r = and_then-parsed (supported given [] s p) (λ b s p. parsed (leaf i b) s p) h in
    moves_on (supported-moves given [] s p r.first) (parsed-stays r.after)

leaf_known-moves :
    (given : Bool) (t : Bool) (i seen begun : ℕ) (s : List ℕ) (p : ℕ) {x : Tree} {rest : List ℕ} {q : ℕ}
    → leaf_known given t i seen begun s p ≡ parsed x rest q → Moves s p rest q
leaf_known-moves given false i seen begun s p h = absurd (refused-parsed h)
leaf_known-moves given true i seen begun s p h = leaf_new-moves given (apart (single i) seen) i begun s p h

pub leaf_at_advances :
    (given : Bool) (names : List (List ℕ)) (seen : ℕ) (s : List ℕ) (p : ℕ) {x : Tree} {rest : List ℕ} {q : ℕ}
    → next_label s ≡ true → leaf_at given names seen s p ≡ parsed x rest q → Advances s p rest q
unfolding leaf_by
leaf_at_advances given names seen s p is h =
    let r = and_then-parsed (name s p) (λ w rest q. leaf_known given (ltb (position w names) (length names)) (position w names) seen p rest q) h in
    let i = position r.value names in
    advances_on (name_advances s p is r.first) (leaf_known-moves given (ltb i (length names)) i seen p r.left r.place r.after)

pub closing-moves :
    (given : Bool) (t : Tree) (f : Forest) (s : List ℕ) (p : ℕ) {x : Tree} {rest : List ℕ} {q : ℕ} → closing given t f s p ≡ parsed x rest q → Moves s p rest q
unfolding closing_by
closing-moves given t f s p h =
    let r = and_then-parsed (inner_name s p) (λ w s p. and_then (supported given w s p) (λ b s p. parsed (node t f b) s p)) h in
    let n = and_then-parsed (supported given r.value r.left r.place) (λ b s p. parsed (node t f b) s p) r.after in
    moves_on (inner_name-moves s p r.first) (moves_on (supported-moves given r.value r.left r.place n.first) (parsed-stays n.after))

-- ---- nodes and children; what a piece of reading does from every text and place

abbrev pub Reader : Type 0 → Type 0
Reader A = ℕ → List ℕ → ℕ → Answer A

abbrev pub AllAdvance : {A : Type 0} → Reader A → Type 0
AllAdvance {A} read = (e : ℕ) (s : List ℕ) (p : ℕ) (x : A) (rest : List ℕ) (q : ℕ) → read e s p ≡ parsed x rest q → Advances s p rest q

after_first-moves :
    (given : Bool) (t u : Bool) (others : Reader Forest) (seen : ℕ) (c : Tree) (s : List ℕ) (p : ℕ) {x : Tree} {rest : List ℕ} {q : ℕ}
    → AllAdvance others → next_is 44 s ≡ t → after_first given t u others seen c s p ≡ parsed x rest q → Moves s p rest q
after_first-moves given true u others seen c s p on is h =
    let r = and_then-parsed (others (union seen (cluster c)) (tail s) (p + 1)) (λ f s p. closing given c f s p) h in
    moves_on (next_is-tail 44 s p is).moves
    (moves_on (on (union seen (cluster c)) (tail s) (p + 1) r.value r.left r.place r.first).moves
    (closing-moves given c r.value r.left r.place r.after))
after_first-moves given false true others seen c s p on is h = absurd (refused-parsed h)
after_first-moves given false false others seen c s p on is h = absurd (unexpected-parsed s p h)

opened_advances :
    (given : Bool) (first : ℕ → Reader Tree) (others : ℕ → Reader Forest) (room seen : ℕ) (s : List ℕ) (p : ℕ) {x : Tree} {rest : List ℕ} {q : ℕ}
    → ((r : ℕ) → AllAdvance (first r)) → ((r : ℕ) → AllAdvance (others r)) → next_is 40 s ≡ true
    → opened given first others room seen s p ≡ parsed x rest q → Advances s p rest q
opened_advances given first others zero seen s p one on is h = absurd (refused-parsed h)
opened_advances given first others (suc room) seen s p one on is h =
    let r =
    and_then-parsed (first room seen (tail s) (p + 1))
    (λ t s p. after_first given (next_is 44 (skip s)) (next_is 41 (skip s)) (λ e s p. others room e s p) seen t (skip s) (p + blanks s)) h
    in
    let m = r.left in
    advances_on (next_is-tail 40 s p is)
    (moves_on (one room seen (tail s) (p + 1) r.value m r.place r.first).moves
    (moves_on (skip-moves m r.place)
    (after_first-moves given (next_is 44 (skip m)) (next_is 41 (skip m)) (λ e s p. others room e s p) seen r.value (skip m) (r.place + blanks m) (on room)
    refl r.after)))

node_by_advances :
    (given : Bool) (t u : Bool) (names : List (List ℕ)) (first : ℕ → Reader Tree) (others : ℕ → Reader Forest) (room seen : ℕ) (s : List ℕ) (p : ℕ)
    {x : Tree} {rest : List ℕ} {q : ℕ}
    → ((r : ℕ) → AllAdvance (first r)) → ((r : ℕ) → AllAdvance (others r)) → next_label s ≡ t → next_is 40 s ≡ u
    → node_by given t u names first others room seen s p ≡ parsed x rest q → Advances s p rest q
node_by_advances given true u names first others room seen s p one on is opens h = leaf_at_advances given names seen s p is h
node_by_advances given false true names first others room seen s p one on is opens h = opened_advances given first others room seen s p one on opens h
node_by_advances given false false names first others room seen s p one on is opens h = absurd (unexpected-parsed s p h)

after_child_advances :
    (t u : Bool) (others : Reader Forest) (seen : ℕ) (c : Tree) (s : List ℕ) (p : ℕ) {x : Forest} {rest : List ℕ} {q : ℕ}
    → AllAdvance others → next_is 44 s ≡ t → next_is 41 s ≡ u → after_child t u others seen c s p ≡ parsed x rest q → Advances s p rest q
after_child_advances true u others seen c s p on is closes h =
    let r = and_then-parsed (others (union seen (cluster c)) (tail s) (p + 1)) (λ f s p. parsed (more c f) s p) h in
    advances_on (next_is-tail 44 s p is)
    (moves_on (on (union seen (cluster c)) (tail s) (p + 1) r.value r.left r.place r.first).moves (parsed-stays r.after))
after_child_advances false true others seen c s p on is closes h = advances_on (next_is-tail 41 s p closes) (parsed-stays h)
after_child_advances false false others seen c s p on is closes h = absurd (unexpected-parsed s p h)

forest_step :
    (first : Reader Tree) (others : Reader Forest) (seen : ℕ) (s : List ℕ) (p : ℕ) {x : Forest} {rest : List ℕ} {q : ℕ}
    → AllAdvance first → AllAdvance others
    → and_then (first seen s p) (λ t s p. after_child (next_is 44 (skip s)) (next_is 41 (skip s)) others seen t (skip s) (p + blanks s)) ≡ parsed x rest q
    → Advances s p rest q
forest_step first others seen s p one on h =
    let r = and_then-parsed (first seen s p) (λ t s p. after_child (next_is 44 (skip s)) (next_is 41 (skip s)) others seen t (skip s) (p + blanks s)) h in
    let m = r.left in
    advances_on (one seen s p r.value m r.place r.first)
    (moves_on (skip-moves m r.place)
    (after_child_advances (next_is 44 (skip m)) (next_is 41 (skip m)) others seen r.value (skip m) (r.place + blanks m) on refl refl r.after).moves)

mutual
  unfolding read_node_by read_forest_by

  pub read_node_advances :
      (given : Bool) (k : ℕ) (names : List (List ℕ)) (room seen : ℕ) (s : List ℕ) (p : ℕ) (x : Tree) (rest : List ℕ) (q : ℕ)
      → read_node given k names room seen s p ≡ parsed x rest q → Advances s p rest q
  read_node_advances given zero names room seen s p x rest q h = absurd (refused-parsed h)
  read_node_advances given (suc k) names room seen s p x rest q h =
      on_advances (skip-moves s p)
      (node_by_advances given (next_label (skip s)) (next_is 40 (skip s)) names (λ r e s p. read_node given k names r e s p) (λ r e s p. read_forest given k names r e s p)
      room seen (skip s) (p + blanks s)
      (λ r e s p x rest q h. read_node_advances given k names r e s p x rest q h) (λ r e s p x rest q h. read_forest_advances given k names r e s p x rest q h)
      refl refl h)

  pub read_forest_advances :
      (given : Bool) (k : ℕ) (names : List (List ℕ)) (room seen : ℕ) (s : List ℕ) (p : ℕ) (x : Forest) (rest : List ℕ) (q : ℕ)
      → read_forest given k names room seen s p ≡ parsed x rest q → Advances s p rest q
  read_forest_advances given zero names room seen s p x rest q h = absurd (refused-parsed h)
  read_forest_advances given (suc k) names room seen s p x rest q h =
      forest_step (λ e s p. read_node given k names room e s p) (λ e s p. read_forest given k names room e s p) seen s p
      (λ e s p x rest q h. read_node_advances given k names room e s p x rest q h) (λ e s p x rest q h. read_forest_advances given k names room e s p x rest q h) h

-- ---- the tree

complete_advances :
    (t : Bool) (c : Tree) (s : List ℕ) (p : ℕ) {x : Tree} {rest : List ℕ} {q : ℕ}
    → next_is 59 s ≡ true → complete t c s p ≡ parsed x rest q → Advances s p rest q
complete_advances true c s p is h = advances_on (next_is-tail 59 s p is) (parsed-stays h)
complete_advances false c s p is h = absurd (refused-parsed h)

ended_advances :
    (t : Bool) (needed : ℕ) (c : Tree) (s : List ℕ) (p : ℕ) {x : Tree} {rest : List ℕ} {q : ℕ}
    → next_is 59 s ≡ t → ended t needed c s p ≡ parsed x rest q → Advances s p rest q
ended_advances true needed c s p is h = complete_advances (within needed (cluster c)) c s p is h
ended_advances false needed c s p is h = absurd (unexpected-parsed s p h)

pub read_tree_to_advances :
    (given : Bool) (k : ℕ) (names : List (List ℕ)) (most needed : ℕ) (s : List ℕ) (p : ℕ) {x : Tree} {rest : List ℕ} {q : ℕ}
    → read_tree_to given k names most needed s p ≡ parsed x rest q → Advances s p rest q
unfolding read_tree_to_by
read_tree_to_advances given k names most needed s p h =
    let r =
    and_then-parsed (read_node given k names most 0 s p) (λ t s p. ended (next_is 59 (skip s)) needed t (skip s) (p + blanks s)) h
    in
    let m = r.left in
    advances_on (read_node_advances given k names most 0 s p r.value m r.place r.first)
    (moves_on (skip-moves m r.place) (ended_advances (next_is 59 (skip m)) needed r.value (skip m) (r.place + blanks m) refl r.after).moves)

pub read_tree_advances :
    (given : Bool) (names : List (List ℕ)) (most needed : ℕ) (s : List ℕ) (p : ℕ) {x : Tree} {rest : List ℕ} {q : ℕ}
    → read_tree given names most needed s p ≡ parsed x rest q → Advances s p rest q
unfolding read_tree_by
read_tree_advances given names most needed s p h = read_tree_to_advances given (2 * length s + 1) names most needed s p h
