-- Steps of reading, by the strict rules: what a piece of reading takes off the text, and how far it moves; and where reading stands.
use Prim.Native.Nat.{ℕ, suc, ◌+◌, ◌-◌, ◌<◌}
use native.Mathlib.Omega.{arith}
use mathlib.Core.Path.{◌≡◌, refl, sym, ap, ◌∙◌}
use mathlib.Core.Logic.{◌⊎◌, inl, inr, ⊎_elim}
use mathlib.Core.Bool.{Bool, true, false}
use mathlib.Core.List.{List, [], ◌∷◌, ◌++◌, tail, append_assoc}
use lib.ListN.{length, get_or, take, drop, length-append}
use lib.Seq.{take-append_seam, take-append-add, drop-append_seam, drop-append-add, get_or-append_seam}
use Rattle.labels.specs.Bytes.{next_is, next_label}
use Rattle.labels.specs.Spelling.{Spells}
use Rattle.labels.specs.Labels.{Told, told}
use Rattle.labels.specs.Labels.Told.{ended, faulty}
use Rattle.labels.proofs.LabelFronts.{Front, front_as, spells-front}
use Rattle.trees.specs.Tree.{Tree, Forest, Behind}
use Rattle.tokens.specs.Answers.{Answer, and_then}
use Rattle.tokens.specs.Answers.Answer.{parsed, refused}
use Rattle.tokens.specs.Tokens.{blanks, skip, number_behind, second_number, first_number, numbers_by, numbers, name_by, name, inner_name}
use Rattle.tokens.specs.Supports.{refuses_fine, unless_fine, supported}
use Rattle.tokens.proofs.Supports.{none_fine}
use Rattle.nodes.specs.Reading.{read_node, read_forest}
use Rattle.nodes.specs.Grammar.{strict, Blanks, ColonNumber, Inner, Node, Children}
use Rattle.nodes.specs.Grammar.Blanks.{none}
use Rattle.nodes.proofs.Answers.{refused-parsed, parsed-refused, and_then-refused, and_then-assoc}
use Rattle.nodes.proofs.Rests.{moves-length, skip-moves, skip-tail, next_is-tail, number_behind_advances, name-moves, inner_name-moves, read_node_advances, read_forest_advances}
use Rattle.nodes.proofs.Sound.{skip-blanks, next_is_cons, skip-byte, colon-read, name-read, inner_name-read, read_node_sound, read_forest_sound}
use Rattle.nodes.proofs.Fronts.{Then, BlanksAnd, front-then, blanks-front, byte-front, strict_placeless, colon-front, inner-front, node-front, children-front}

-- ---- one step of reading: X is taken off s at place p, and rest is left at place q

pub record Step (X : List ℕ → List ℕ → Type 0) (s : List ℕ) (p : ℕ) (rest : List ℕ) (q : ℕ) : Type 0 where
  pub front : Front X s rest
  pub moved : q + length rest ≡ p + length s

pub step_then :
    (X Y : List ℕ → List ℕ → Type 0) {s m rest : List ℕ} {p r q : ℕ} → Step X s p m r → Step Y m r rest q → Step (Then X Y) s p rest q
step_then X Y a b = record { front = front-then X Y a.front b.front; moved = b.moved ∙ a.moved }

-- what is an X by one grammar is one by another
pub step_as :
    (X Y : List ℕ → List ℕ → Type 0) {s rest : List ℕ} {p q : ℕ} → ((s rest : List ℕ) → X s rest → Y s rest) → Step X s p rest q → Step Y s p rest q
step_as X Y f a = record { front = front_as X Y f a.front; moved = a.moved }

pub step_skip : (s : List ℕ) (p : ℕ) → Step Blanks s p (skip s) (p + blanks s)
step_skip s p = record { front = blanks-front (skip-blanks s); moved = moves-length (skip-moves s p) }

pub step-byte : (b : ℕ) (s : List ℕ) (p : ℕ) → next_is b (skip s) ≡ true → Step (BlanksAnd b) s p (tail (skip s)) (p + blanks s + 1)
step-byte b s p is = record { front = byte-front b (skip-byte b s is); moved = moves-length (skip-tail b s p is).moves }

pub step_here : (b : ℕ) (s : List ℕ) (p : ℕ) → next_is b s ≡ true → Step (BlanksAnd b) s p (tail s) (p + 1)
step_here b s p is =
    record {
      front = record { bytes = b ∷ []; split = next_is_cons b s is; anywhere = λ behind. none };
      moved = moves-length (next_is-tail b s p is).moves;
    }

pub step-name : (s : List ℕ) (p : ℕ) {w rest : List ℕ} {q : ℕ} → next_label s ≡ true → name s p ≡ parsed w rest q → Step (Spells w) s p rest q
step-name s p is h = record { front = spells-front (name-read s p is h).derives; moved = moves-length (name-moves s p h) }

-- a name that is read has ended
pub name-ended : (s : List ℕ) (p : ℕ) {w rest : List ℕ} {q : ℕ} → name s p ≡ parsed w rest q → (r : ℕ) × (told s ≡ ended r)
unfolding name
name-ended s p {w} {rest} {q} h = by (told s) refl h
  where
    by : (t : Told) → told s ≡ t → name_by t s p ≡ parsed w rest q → (r : ℕ) × (told s ≡ ended r)
    by (ended r) e h = (r, e)
    by (faulty number f) e h = absurd (refused-parsed h)

module _ (given : Bool) (names : List (List ℕ)) where
  -- a colon and a number
  pub step-colon :
      (s : List ℕ) (p : ℕ) {w rest : List ℕ} {q : ℕ}
      → next_is 58 (skip s) ≡ true → number_behind (tail (skip s)) (p + blanks s + 1) ≡ parsed w rest q
      → Step (ColonNumber (strict given names).distance w) s p rest q
  step-colon s p is h =
      record {
        front = colon-front (strict given names).distance (strict_placeless given names).distances
            (colon-read (strict given names).distance s (p + blanks s + 1) is (λ s₂ short. short) h);
        moved = moves-length (number_behind_advances (tail (skip s)) (p + blanks s + 1) h).moves ∙ moves-length (skip-tail 58 s p is).moves;
      }

  pub step-inner : (s : List ℕ) (p : ℕ) {w rest : List ℕ} {q : ℕ} → inner_name s p ≡ parsed w rest q → Step (Inner (strict given names) w) s p rest q
  step-inner s p h =
      record {
        front = inner-front (strict given names) (strict_placeless given names) (inner_name-read given names s p h);
        moved = moves-length (inner_name-moves s p h);
      }

  module _ (k room seen : ℕ) (s : List ℕ) (p : ℕ) where
    pub step-node :
        {t : Tree} {rest : List ℕ} {q : ℕ} → read_node given k names room seen s p ≡ parsed t rest q
        → Step (λ s rest. Node (strict given names) room s t rest) s p rest q
    step-node {t} {rest} {q} h =
        record {
          front = node-front (strict given names) (strict_placeless given names) (read_node_sound given k names room seen s p t rest q h).derives;
          moved = moves-length (read_node_advances given k names room seen s p t rest q h).moves;
        }

    pub step-forest :
        {f : Forest} {rest : List ℕ} {q : ℕ} → read_forest given k names room seen s p ≡ parsed f rest q
        → Step (λ s rest. Children (strict given names) room s f rest) s p rest q
    step-forest {f} {rest} {q} h =
        record {
          front = children-front (strict given names) (strict_placeless given names) (read_forest_sound given k names room seen s p f rest q h).derives;
          moved = moves-length (read_forest_advances given k names room seen s p f rest q h).moves;
        }

-- ---- what stands behind a node, where it is refused

-- a support that is read is judged
abbrev judge : Bool → Behind → List ℕ → ℕ → Answer Behind
judge given b s p = unless_fine (refuses_fine given b.support) b s p

-- the number is read, and refused as a support, at its first byte
pub record FineRead (given : Bool) (s : List ℕ) (p n q : ℕ) : Type 0 where
  pub bytes : List ℕ
  pub rest : List ℕ
  pub end : ℕ
  pub read : number_behind s p ≡ parsed bytes rest end
  pub fine : refuses_fine given bytes ≡ true
  pub number : n ≡ 18
  pub place : q ≡ end - length bytes

-- a support is refused as a number, or when it is read
abbrev pub SupportRefused : Bool → List ℕ → ℕ → ℕ → ℕ → Type 0
SupportRefused given s p n q = (number_behind s p ≡ refused n q) ⊎ FineRead given s p n q

support-refused :
    (given : Bool) (w d s : List ℕ) (p : ℕ) {n q : ℕ}
    → and_then (and_then (number_behind s p) (λ b s p. parsed (record { name = w; distance = d; support = b }) s p)) (judge given) ≡ refused n q
    → SupportRefused given s p n q
support-refused given w d s p {n} {q} h = by (number_behind s p) refl h
  where
    judged :
        (t : Bool) (b rest : List ℕ) (r : ℕ) → refuses_fine given b ≡ t → number_behind s p ≡ parsed b rest r
        → unless_fine t (record { name = w; distance = d; support = b }) rest r ≡ refused n q → SupportRefused given s p n q
    judged false b rest r is e h = absurd (parsed-refused h)
    judged true b rest r is e h = inr (record { bytes = b; rest = rest; end = r; read = e; fine = is; number = cc; place = cc })

    by :
        (a : Answer (List ℕ)) → number_behind s p ≡ a
        → and_then (and_then a (λ b s p. parsed (record { name = w; distance = d; support = b }) s p)) (judge given) ≡ refused n q
        → SupportRefused given s p n q
    by (refused m z) e h = inl (e ∙ cc)
    by (parsed b rest r) e h = judged (refuses_fine given b) b rest r refl e h

-- the number behind a colon is refused, or the support behind two colons, or behind a distance and a colon
pub data BehindRefused (given : Bool) (names : List (List ℕ)) (s : List ℕ) (p n q : ℕ) : Type 0 where
  behind_colon : {m : List ℕ} {r : ℕ} → Step (BlanksAnd 58) s p m r → number_behind m r ≡ refused n q → BehindRefused given names s p n q
  behind_colons : {m : List ℕ} {r : ℕ} → Step (Then (BlanksAnd 58) (BlanksAnd 58)) s p m r → SupportRefused given m r n q → BehindRefused given names s p n q
  behind_distance :
      {m : List ℕ} {r : ℕ} (d : List ℕ)
      → Step (Then (ColonNumber (strict given names).distance d) (BlanksAnd 58)) s p m r → SupportRefused given m r n q → BehindRefused given names s p n q

module _ (given : Bool) (names : List (List ℕ)) (w s : List ℕ) (p : ℕ) {n q : ℕ} where
  second-refused :
      {d m : List ℕ} {r : ℕ} (t : Bool) → Step (ColonNumber (strict given names).distance d) s p m r → next_is 58 (skip m) ≡ t
      → and_then (second_number t w d m r) (judge given) ≡ refused n q → BehindRefused given names s p n q
  second-refused false x is h = absurd (parsed-refused (rw (none_fine given) at h))
  second-refused {d} {m} {r} true x is h =
      behind_distance d (step_then (ColonNumber (strict given names).distance d) (BlanksAnd 58) x (step-byte 58 m r is))
      (support-refused given w d (tail (skip m)) (r + blanks m + 1) h)

  first_refused :
      (t : Bool) → next_is 58 (skip s) ≡ true → next_is 58 (skip (tail (skip s))) ≡ t
      → and_then (first_number t w (tail (skip s)) (p + blanks s + 1)) (judge given) ≡ refused n q → BehindRefused given names s p n q
  first_refused true is again h =
      let m = tail (skip s) in
      let r = p + blanks s + 1 in
      behind_colons (step_then (BlanksAnd 58) (BlanksAnd 58) (step-byte 58 s p is) (step-byte 58 m r again))
      (support-refused given w [] (tail (skip m)) (r + blanks m + 1) h)
  first_refused false is again h =
      let a = number_behind (tail (skip s)) (p + blanks s + 1) in
      ⊎_elim (λ e. behind_colon (step-byte 58 s p is) e)
      (λ r. second-refused (next_is 58 (skip r.left)) (step-colon given names s p is r.first) refl r.after)
      (and_then-refused a (λ d s p. and_then (second_number (next_is 58 (skip s)) w d s p) (judge given))
      (sym (and_then-assoc a (λ d s p. second_number (next_is 58 (skip s)) w d s p) (judge given)) ∙ h))

  numbers-refused : (t : Bool) → next_is 58 (skip s) ≡ t → and_then (numbers_by t w s p) (judge given) ≡ refused n q → BehindRefused given names s p n q
  numbers-refused false is h = absurd (parsed-refused (rw (none_fine given) at h))
  numbers-refused true is h = first_refused (next_is 58 (skip (tail (skip s)))) is refl h

  -- what stands behind a node is refused in one of these ways
  pub supported-refused : supported given w s p ≡ refused n q → BehindRefused given names s p n q
  unfolding supported numbers
  supported-refused h = numbers-refused (next_is 58 (skip s)) refl h

-- ---- where reading stands

-- u has been read of the text s₀, and s is left
pub record Left (s₀ u s : List ℕ) : Type 0 where
  pub whole : s₀ ≡ u ++ s

module _ {s₀ u s : List ℕ} (left : Left s₀ u s) where
  pub front : take (length u) s₀ ≡ u
  front = rw left.whole (take-append_seam u s)

  pub back : drop (length u) s₀ ≡ s
  back = rw left.whole (drop-append_seam u s)

  pub back_from : (k : ℕ) → drop (length u + k) s₀ ≡ drop k s
  back_from k = rw left.whole (drop-append-add u s k)

  pub all_length : length s₀ ≡ length u + length s
  all_length = ap length left.whole ∙ length-append u s

  -- the byte b is next
  module _ (b : ℕ) (is : next_is b s ≡ true) where
    pub front_with : take (suc (length u)) s₀ ≡ u ++ b ∷ []
    front_with =
        let split : s₀ ≡ u ++ b ∷ tail s = left.whole ∙ ap (λ (l : List ℕ). u ++ l) (next_is_cons b s is) in
        let with_more : suc (length u) ≡ length u + 1 = omega arith in
        rw (with_more, split) (take-append-add u (b ∷ tail s) 1)

    pub byte_here : (length u < length s₀) × (get_or s₀ (length u) 0 ≡ b)
    byte_here =
        let e = next_is_cons b s is in
        let size : length s ≡ suc (length (tail s)) = ap length e in (
          omega (arith, all_length),
          ap (λ (l : List ℕ). get_or l (length u) 0) (left.whole ∙ ap (λ (l : List ℕ). u ++ l) e) ∙ get_or-append_seam u b (tail s) 0,
        )

-- u has been read of the text s₀, which begins at place p₀; s is left, at place p
pub record Stands (s₀ : List ℕ) (p₀ : ℕ) (u s : List ℕ) (p : ℕ) : Type 0 where
  pub left : Left s₀ u s
  pub place : p ≡ p₀ + length u

pub stands_on :
    {s₀ : List ℕ} {p₀ : ℕ} {X : List ℕ → List ℕ → Type 0} {u s rest : List ℕ} {p q : ℕ}
    → Stands s₀ p₀ u s p → (x : Step X s p rest q) → Stands s₀ p₀ (u ++ x.front.bytes) rest q
stands_on {u = u} {rest = rest} st x =
    let f = x.front in
    let taken = ap length f.split ∙ length-append f.bytes rest in
    let all = length-append u f.bytes in
    record {
      left = record { whole = st.left.whole ∙ (ap (λ (l : List ℕ). u ++ l) f.split ∙ sym (append_assoc u f.bytes rest)) };
      place = omega (arith, st.place, x.moved);
    }
