-- Which clusters the bytes of the program's modes allow: with `all` every one, with `genes` those that a gene tree shows.
use Prim.Native.Nat.{ℕ, ◌^◌, ◌<◌}
use mathlib.Core.Path.{◌≡◌, refl, sym, ap, ◌∙◌, subst}
use mathlib.Core.Logic.{◌⊎◌, inl, inr, ◌↔◌}
use mathlib.Core.Bool.{Bool, true, false, ◌||◌, false≢true}
use mathlib.Core.List.Memᴰ
use mathlib.Core.List.Memᴰ.{head as here}
use mathlib.Core.List.Memᴰ.{tail as there}
use mathlib.Core.List.{List, [], ◌∷◌, map, Memᴰ}
use lib.ListN.{get_or}
use lib.Dec.{eqb}
use borrow.Author.Tests.{eqb-true, eq-eqb}
use Rattle.clusters.specs.Sets.{whole, size}
use Rattle.trees.specs.Lists.{Among}
use Rattle.trees.specs.Tree.{Tree, clusters}
use Rattle.trees.specs.Records.{record_of}
use Rattle.trees.specs.Valid.{among}
use Rattle.trees.proofs.Recorded.{among_record, record_among}
use Rattle.trees.proofs.ValidTest.{tells_among}
use Rattle.weights.specs.declared.Rooting.{Rooting}
use Rattle.weights.specs.declared.Rooting.TheVariants.{Rooted, Unrooted}
use Rattle.weights.specs.Count.{shown_by}
use Rattle.weights.specs.Marks.{shown as shown_in, flag}
use Rattle.lineages.specs.Promise.{marks}
use Rattle.trees.proofs.Booleans.{either, or_left, or_right}
use Rattle.trees.proofs.UpTo.{map-up_to}
use Rattle.terms.specs.Allowed.{allowed_in}
use Rattle.terms.proofs.AllMarked.{all_allowed}
use Rattle.outcomes.specs.Outcome.{allowed_by}
use Rattle.demands.specs.GeneTrees.{RecordsOf, clusters_shown}
use Rattle.demands.specs.Input.{Allows}
use Rattle.demands.specs.Input.Allows.{every, lone, entire, shown}

-- ---- the clusters that are shown

-- a gene tree shows what its record does
shows_exactly : (rooting : Rooting) (t : Tree) (a : ℕ) → Among a (shown_by rooting (record_of (clusters t))) ↔ Among a (clusters_shown rooting t)
shows_exactly Rooted t a = (among_record 16 (clusters t), record_among 16 (clusters t))
shows_exactly Unrooted t a = (λ m. m, λ m. m)

module _ (rooting : Rooting) where
  -- some tree of the list shows a
  abbrev ShownIn : List Tree → ℕ → Type 0
  ShownIn trees a = (t : Tree) × Memᴰ t trees × Among a (clusters_shown rooting t)

  shown-drawn : (trees : List Tree) (a : ℕ) → shown_in rooting (map (λ (t : Tree). record_of (clusters t)) trees) a ≡ true → ShownIn trees a
  unfolding shown_in
  shown-drawn [] a e = absurd (false≢true e)
  shown-drawn (t ∷ trees) a e =
      go (either (among a (shown_by rooting (record_of (clusters t)))) (shown_in rooting (map (λ (t : Tree). record_of (clusters t)) trees) a) e)
      (shown-drawn trees a)
    where
      go :
          (among a (shown_by rooting (record_of (clusters t))) ≡ true) ⊎ (shown_in rooting (map (λ (t : Tree). record_of (clusters t)) trees) a ≡ true)
          → (shown_in rooting (map (λ (t : Tree). record_of (clusters t)) trees) a ≡ true → ShownIn trees a) → ShownIn (t ∷ trees) a
      go (inl k) later = (t, here refl, (shows_exactly rooting t a).0 ((tells_among a (shown_by rooting (record_of (clusters t)))).holds k))
      go (inr k) later = let d = later k in (d.0, there d.1, d.2)

  drawn-shown :
      (trees : List Tree) (a : ℕ) (t : Tree) → Memᴰ t trees → Among a (clusters_shown rooting t)
      → shown_in rooting (map (λ (t : Tree). record_of (clusters t)) trees) a ≡ true
  unfolding shown_in
  drawn-shown [] a t m d = absurd (Memᴰ.not-nil m)
  drawn-shown (u ∷ trees) a t m d = go (Memᴰ.cases_cons m) (λ k. drawn-shown trees a t k d)
    where
      go :
          (t ≡ u) ⊎ Memᴰ t trees → (Memᴰ t trees → shown_in rooting (map (λ (t : Tree). record_of (clusters t)) trees) a ≡ true)
          → (among a (shown_by rooting (record_of (clusters u))) || shown_in rooting (map (λ (t : Tree). record_of (clusters t)) trees) a) ≡ true
      go (inl e) later =
          or_left (among a (shown_by rooting (record_of (clusters u)))) (shown_in rooting (map (λ (t : Tree). record_of (clusters t)) trees) a)
          ((tells_among a (shown_by rooting (record_of (clusters u)))).told
          ((shows_exactly rooting u a).1 (subst (λ (t : Tree). Among a (clusters_shown rooting t)) e d)))
      go (inr k) later =
          or_right (among a (shown_by rooting (record_of (clusters u)))) (shown_in rooting (map (λ (t : Tree). record_of (clusters t)) trees) a) (later k)

-- ---- the bytes

flag_one : (b : Bool) → eqb (flag b) 1 ≡ b
flag_one true = refl
flag_one false = refl

marked-byte : (rooting : Rooting) (n : ℕ) (genes : List (List ℕ)) (a : ℕ) → a < 2 ^ n → eqb (get_or (marks rooting n genes) a 0) 1 ≡ shown_in rooting genes a
unfolding marks
marked-byte rooting n genes a h =
    ap (λ (x : ℕ). eqb x 1) (map-up_to (λ (a : ℕ). flag (shown_in rooting genes a)) (2 ^ n) a h) ∙ flag_one (shown_in rooting genes a)

-- ---- the modes

module _ (rooting : Rooting) {n : ℕ} {genes : List (List ℕ)} {trees : List Tree} (r : RecordsOf n genes trees) (a : ℕ) (below : a < 2 ^ n) where
  pub byte_allows : (all : Bool) → allowed_in n (allowed_by all rooting n genes) a ≡ true → Allows n rooting trees all a
  unfolding allowed_in
  byte_allows true e = every
  byte_allows false e = first (either (eqb (size a) 1 || eqb a (whole n)) (eqb (get_or (marks rooting n genes) a 0) 1) e)
    where
      second : (eqb (size a) 1 ≡ true) ⊎ (eqb a (whole n) ≡ true) → Allows n rooting trees false a
      second (inl k) = lone (eqb-true (size a) 1 k)
      second (inr k) = entire (eqb-true a (whole n) k)

      first : ((eqb (size a) 1 || eqb a (whole n)) ≡ true) ⊎ (eqb (get_or (marks rooting n genes) a 0) 1 ≡ true) → Allows n rooting trees false a
      first (inl k) = second (either (eqb (size a) 1) (eqb a (whole n)) k)
      first (inr k) =
          let d = shown-drawn rooting trees a
          (ap (λ (l : List (List ℕ)). shown_in rooting l a) (sym r.records) ∙ sym (marked-byte rooting n genes a below) ∙ k) in
          shown d.1 d.2

  -- and the other way
  pub allows_byte : (all : Bool) → Allows n rooting trees all a → allowed_in n (allowed_by all rooting n genes) a ≡ true
  unfolding allowed_in
  allows_byte true h = all_allowed n a below
  allows_byte false (lone k) =
      or_left (eqb (size a) 1 || eqb a (whole n)) (eqb (get_or (marks rooting n genes) a 0) 1) (or_left (eqb (size a) 1) (eqb a (whole n)) (eq-eqb (size a) 1 k))
  allows_byte false (entire k) =
      or_left (eqb (size a) 1 || eqb a (whole n)) (eqb (get_or (marks rooting n genes) a 0) 1) (or_right (eqb (size a) 1) (eqb a (whole n)) (eq-eqb a (whole n) k))
  allows_byte false (shown {t = t} m d) =
      or_right (eqb (size a) 1 || eqb a (whole n)) (eqb (get_or (marks rooting n genes) a 0) 1)
      (marked-byte rooting n genes a below ∙ ap (λ (l : List (List ℕ)). shown_in rooting l a) r.records ∙ drawn-shown rooting trees a t m d)
