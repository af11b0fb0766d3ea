-- A refusal, and nothing at fault before the last of the bytes that decide it.
use Prim.Native.Nat.{ℕ, zero, suc, ◌+◌, ◌-◌, ◌≤◌}
use native.Mathlib.Omega.{arith}
use mathlib.Core.Path.{◌≡◌, refl, ap, ◌∙◌}
use mathlib.Core.Logic.{⊎_elim}
use mathlib.Core.Bool.{Bool, false, ◌||◌}
use mathlib.Core.List.{List}
use lib.ListN.{length, get_or, drop}
use lib.Seq.{get_or-append-add}
use lib.Dec.{eqb}
use Rattle.labels.specs.Bytes.{next_is}
use Rattle.roster.specs.Roster.{byte_before}
use Rattle.tokens.specs.Answers.{Answer, unexpected}
use Rattle.tokens.specs.Answers.Answer.{refused}
use Rattle.nodes.specs.Deciding.{border_by, border}
use Rattle.nodes.proofs.Answers.{unexpected-refused}
use Rattle.meanings.specs.Meaning.{Kept}
use Rattle.meanings.proofs.ReadingSteps.{Left, back_from, Stands}
use Rattle.meanings.proofs.KeptContexts.{MayFollow}
use Rattle.meanings.proofs.KeptPlaces.{NoneIn, kept_here}
use Rattle.nodes.proofs.Locality.{deciding, border-deciding}

-- ---- borders from a place on

-- what is left of a text has its own borders
module _ {s₀ u s : List ℕ} (left : Left s₀ u s) (f : ℕ) where
  pub border_left : (n : ℕ) → border n s₀ (length u + f) ≡ length u + border n s f
  border_left n =
      border-deciding n s₀ (length u + f) ∙ (ap (λ (l : List ℕ). length u + f + deciding n l) (back_from left f) ∙ omega (arith, border-deciding n s f))

-- and its own bytes
pub byte_left : {s₀ u s : List ℕ} (j : ℕ) → 1 ≤ j → Left s₀ u s → byte_before s₀ (length u + j) ≡ byte_before s j
byte_left zero some left = absurd (omega arith)
byte_left {s₀} {u} {s} (suc i) some left =
    let at : length u + suc i ≡ suc (length u + i) = omega arith in
    ap (byte_before s₀) at ∙ (ap (λ (l : List ℕ). get_or l (length u + i) 0) left.whole ∙ get_or-append-add u s i 0)

pub border-four : (s : List ℕ) (f : ℕ) (t : Bool) → next_is 39 (drop f s) ≡ t → border 4 s f ≡ border_by false false t f s
unfolding border
border-four s f t is = rw is refl

-- ---- the refusal

pub record KeptTill (given : Bool) (names : List (List ℕ)) (most : ℕ) (s₀ : List ℕ) (p₀ number q : ℕ) : Type 0 where
  pub byte : ℕ
  pub place : q ≡ p₀ + byte
  pub kept : Kept given names most s₀ (border number s₀ byte - 1)

-- numbers that the byte at fault decides
pub border-byte : (n : ℕ) (s : List ℕ) (d : ℕ) → (eqb n 5 || eqb n 6) ≡ false → eqb n 18 ≡ false → eqb n 4 ≡ false → border n s d ≡ suc d
unfolding border
border-byte n s d e g f = rw (e, g, f) refl

module _ (given : Bool) {names : List (List ℕ)} {most : ℕ} {s₀ : List ℕ} {p₀ : ℕ} {u s : List ℕ} {p : ℕ} (st : Stands s₀ p₀ u s p) where
  pub till_here :
      {n q : ℕ} → q ≡ p → (eqb n 5 || eqb n 6) ≡ false → eqb n 18 ≡ false → eqb n 4 ≡ false → MayFollow given names most NoneIn u → KeptTill given names most s₀ p₀ n q
  till_here {n} at e g f may =
      let here : border n s₀ (length u) - 1 ≡ length u = omega (arith, border-byte n s₀ (length u) e g f) in
      record { byte = length u; place = at ∙ st.place; kept = rw here (kept_here given names st.left may) }

  pub unexpected-till :
      (A : Type 0) {n q : ℕ} → MayFollow given names most NoneIn u → ◌≡◌ {A = Answer A} (unexpected s p) (refused n q) → KeptTill given names most s₀ p₀ n q
  unexpected-till A may h =
      ⊎_elim (λ e. rw e.number (till_here e.place refl refl refl may)) (λ e. rw e.number (till_here e.place refl refl refl may))
      (unexpected-refused s p h)

module _ (given : Bool) {names : List (List ℕ)} {most : ℕ} {s₀ : List ℕ} {p₀ : ℕ} where
  -- refused f bytes on from where reading stands
  pub till_at :
      {u s : List ℕ} {p n q : ℕ} (f : ℕ) → Stands s₀ p₀ u s p → q ≡ p + f → 1 ≤ border n s f → Kept given names most s₀ (length u + (border n s f - 1))
      → KeptTill given names most s₀ p₀ n q
  till_at {u} {s} {p} {n} f st at some kept =
      let all : border n s₀ (length u + f) - 1 ≡ length u + (border n s f - 1) = omega (arith, border_left st.left f n) in
      record { byte = length u + f; place = omega (arith, st.place); kept = rw all kept }

  -- the byte at fault is the last
  pub byte-till :
      {u s : List ℕ} {p n q : ℕ} (f : ℕ) → Stands s₀ p₀ u s p → q ≡ p + f → border n s f ≡ suc f → Kept given names most s₀ (length u + f)
      → KeptTill given names most s₀ p₀ n q
  byte-till {u} {s} {p} {n} f st at last kept =
      let here : border n s f - 1 ≡ f = omega arith in
      till_at f st at (omega arith) (rw here kept)
