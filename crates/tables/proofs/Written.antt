-- A table whose first entries are written, one after the other, and whose other entries stay.
use Prim.Native.Nat.{ℕ, zero, suc, ◌+◌, ◌-◌, ◌≤◌, ◌<◌}
use mathlib.Core.Path.{◌≡◌, refl, sym, ap, ap₂, ◌∙◌, subst}
use mathlib.Core.List.{List, [], ◌∷◌, ◌++◌, map, map-append}
use native.Mathlib.Numerals.{add-one}
use native.Mathlib.Omega.{arith}
use lib.ListN.{length, get_or, set, drop, length-append, length-drop, get_or-append}
use lib.Seq.{drop-cons, append_snoc, set_at, get_or-append-add, get_or-drop, drop_at}
use Rattle.trees.specs.Lists.{up_to}
use Rattle.trees.proofs.UpTo.{length-map-up_to, map-up_to}

entries-suc : (f : ℕ → ℕ) (n : ℕ) → map f (up_to (suc n)) ≡ map f (up_to n) ++ (f n ∷ [])
unfolding up_to
entries-suc f n = map-append f (up_to n) (n ∷ [])

-- the list with its first n entries written: entry b by f
unfoldable pub written : (ℕ → ℕ) → ℕ → List ℕ → List ℕ
written f n l = map f (up_to n) ++ drop n l

pub written_none : (f : ℕ → ℕ) (l : List ℕ) → written f 0 l ≡ l
unfolding written up_to
written_none f l = refl

-- the next entry is written
pub written_next : (f : ℕ → ℕ) (n : ℕ) (l : List ℕ) → n < length l → set (written f n l) n (f n) ≡ written f (n + 1) l
unfolding written
written_next f n l h =
    ap (λ r. set (map f (up_to n) ++ r) n (f n)) (drop-cons l n 0 h)
    ∙ set_at (map f (up_to n)) (get_or l n 0) (drop (suc n) l) (f n) n (length-map-up_to f n)
    ∙ sym (append_snoc (map f (up_to n)) (f n) (drop (suc n) l))
    ∙ ap (λ r. r ++ drop (suc n) l) (sym (entries-suc f n))
    ∙ ap (λ k. map f (up_to k) ++ drop k l) (sym (add-one n))

pub written-length : (f : ℕ → ℕ) (n : ℕ) (l : List ℕ) → n ≤ length l → length (written f n l) ≡ length l
unfolding written
written-length f n l h = omega (arith, length-append (map f (up_to n)) (drop n l), length-map-up_to f n, length-drop n l)

-- an entry that is written
pub written_at : (f : ℕ → ℕ) (n : ℕ) (l : List ℕ) (b : ℕ) → b < n → get_or (written f n l) b 0 ≡ f b
unfolding written
written_at f n l b h = get_or-append (map f (up_to n)) (drop n l) 0 b (subst (λ m. b < m) (sym (length-map-up_to f n)) h) ∙ map-up_to f n b h

-- an entry that is not
pub written_behind_lem : (f : ℕ → ℕ) (n : ℕ) (l : List ℕ) (b : ℕ) → n ≤ b → get_or (written f n l) b 0 ≡ get_or l b 0
unfolding written
written_behind_lem f n l b h =
    let e : b ≡ length (map f (up_to n)) + (b - n) = omega (arith, length-map-up_to f n) in
    let k : n + (b - n) ≡ b = omega arith in
    ap (λ i. get_or (map f (up_to n) ++ drop n l) i 0) e ∙ get_or-append-add (map f (up_to n)) (drop n l) (b - n) 0 ∙ get_or-drop n l (b - n) 0 ∙ ap (λ i. get_or l i 0) k

pub same_entries : (f g : ℕ → ℕ) (n : ℕ) → ((b : ℕ) → b < n → f b ≡ g b) → map f (up_to n) ≡ map g (up_to n)
unfolding up_to
same_entries f g zero h = refl
same_entries f g (suc n) h =
    entries-suc f n ∙ ap₂ (λ r x. r ++ (x ∷ [])) (same_entries f g n (λ b l. h b (omega arith))) (h n (omega arith)) ∙ sym (entries-suc g n)

-- the same entries
pub written_same : (f g : ℕ → ℕ) (n : ℕ) (l : List ℕ) → ((b : ℕ) → b < n → f b ≡ g b) → written f n l ≡ written g n l
unfolding written
written_same f g n l h = ap (λ r. r ++ drop n l) (same_entries f g n h)

-- written twice
pub written-again : (f g : ℕ → ℕ) (n : ℕ) (l : List ℕ) → written f n (written g n l) ≡ written f n l
unfolding written
written-again f g n l = ap (λ r. map f (up_to n) ++ r) (drop_at (map g (up_to n)) (drop n l) n (length-map-up_to g n))

-- what the definition of the tables writes
pub written-entries : (f : ℕ → ℕ) (n : ℕ) (l : List ℕ) → written f n l ≡ map f (up_to n) ++ drop n l
unfolding written
written-entries f n l = refl
