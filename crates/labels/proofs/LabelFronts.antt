-- What a label uses up is a front of the text, and it is a label before any other rest.
use Prim.Native.Nat.{ℕ}
use mathlib.Core.Path.{◌≡◌, refl, ap}
use mathlib.Core.Bool.{Bool}
use mathlib.Core.List.{List, [], ◌∷◌, ◌++◌, map, append_cancel_right}
use Rattle.labels.specs.Bytes.{is_bare}
use Rattle.labels.specs.Spelling.{Run, unwritten, Quoted, Spells}
use Rattle.labels.specs.Spelling.Run.{one, next}
use Rattle.labels.specs.Spelling.Quoted.{closes, plain, twice}
use Rattle.labels.specs.Spelling.Spells.{bare, quoted}

-- s begins with an X, its bytes, which is one whatever is left behind it
pub record Front (X : List ℕ → List ℕ → Type 0) (s rest : List ℕ) : Type 0 where
  pub bytes : List ℕ
  pub split : s ≡ bytes ++ rest
  pub anywhere : (behind : List ℕ) → X (bytes ++ behind) behind

pub front_as :
    (X Y : List ℕ → List ℕ → Type 0) {s rest : List ℕ} → ((s rest : List ℕ) → X s rest → Y s rest) → Front X s rest → Front Y s rest
front_as X Y f a = record { bytes = a.bytes; split = a.split; anywhere = λ behind. f (a.bytes ++ behind) behind (a.anywhere behind) }

-- the bytes of a front are what stands before the rest
pub front-elsewhere : (X : List ℕ → List ℕ → Type 0) (u rest behind : List ℕ) → Front X (u ++ rest) rest → X (u ++ behind) behind
front-elsewhere X u rest behind a = rw (append_cancel_right u a.bytes rest a.split) (a.anywhere behind)

pub run-front : {test : ℕ → Bool} {w s rest : List ℕ} → Run test w s rest → Front (Run test w) s rest
run-front (one {b = b} is) = record { bytes = b ∷ []; split = refl; anywhere = λ behind. one is }
run-front (next {b = b} is d) =
    let f = run-front d in
    record { bytes = b ∷ f.bytes; split = ap (λ (l : List ℕ). b ∷ l) f.split; anywhere = λ behind. next is (f.anywhere behind) }

quoted-front : {w s rest : List ℕ} → Quoted w s rest → Front (Quoted w) s rest
quoted-front closes = record { bytes = 39 ∷ []; split = refl; anywhere = λ behind. closes }
quoted-front (plain {b = b} is q) =
    let f = quoted-front q in
    record { bytes = b ∷ f.bytes; split = ap (λ (l : List ℕ). b ∷ l) f.split; anywhere = λ behind. plain is (f.anywhere behind) }
quoted-front (twice q) =
    let f = quoted-front q in
    record { bytes = 39 ∷ 39 ∷ f.bytes; split = ap (λ (l : List ℕ). 39 ∷ 39 ∷ l) f.split; anywhere = λ behind. twice (f.anywhere behind) }

pub spells-front : {w s rest : List ℕ} → Spells w s rest → Front (Spells w) s rest
spells-front (bare {v = v} r) = front_as (Run is_bare v) (Spells (map unwritten v)) (λ s rest r. bare r) (run-front r)
spells-front (quoted q) =
    let f = quoted-front q in
    record { bytes = 39 ∷ f.bytes; split = ap (λ (l : List ℕ). 39 ∷ l) f.split; anywhere = λ behind. quoted (f.anywhere behind) }
