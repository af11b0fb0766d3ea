-- Species behind those that were seen: each that is on the roster stands once, and was not seen.
use Prim.Native.Nat.{ℕ}
use native.Mathlib.Omega.{arith}
use mathlib.Core.Path.{◌≡◌, ap, ◌∙◌}
use mathlib.Core.Logic.{⊎_elim}
use mathlib.Core.Bool.{Bool}
use mathlib.Core.List.Memᴰ
use mathlib.Core.List.{List, [], ◌∷◌, ◌++◌, append-nil}
use lib.ListN.{length}
use lib.Dec.{ltb}
use borrow.Author.Tests.{le-ltb}
use Rattle.clusters.specs.Sets.{Has, Apart, union}
use Rattle.clusters.proofs.Members.{has_of_apart, union-has_left, union-has_right}
use Rattle.trees.specs.Lists.{Among, keep, NoneTwice}
use Rattle.trees.proofs.Listing.{keep_append, among-keep, none_twice_append, none_twice_keep}

-- those that are on the roster
abbrev pub on_roster : List (List ℕ) → List ℕ → List ℕ
on_roster names l = keep (λ i. ltb i (length names)) l

pub record Fresh (names : List (List ℕ)) (seen : ℕ) (l : List ℕ) : Type 0 where
  pub once : NoneTwice (on_roster names l)
  pub new : (i : ℕ) → Among i (on_roster names l) → Has seen i → ⊥

module _ (names : List (List ℕ)) (seen : ℕ) where
  -- species that are each there once, in a set apart from the one seen
  pub fresh-apart : (c : ℕ) (l : List ℕ) → NoneTwice l → ((i : ℕ) → Among i l → Has c i) → Apart c seen → Fresh names seen l
  fresh-apart c l once all apart =
      record {
        once = none_twice_keep (λ i. ltb i (length names)) l once;
        new = λ i h has. has_of_apart c seen i apart (all i (among-keep (λ i. ltb i (length names)) l h).0) has;
      }

  -- the species that stands for no name
  unknown-dropped : on_roster names (length names ∷ []) ≡ []
  unfolding keep
  unknown-dropped = rw (le-ltb (length names) (length names) (omega arith))

  pub fresh-unknown : (l : List ℕ) → Fresh names seen l → Fresh names seen (l ++ length names ∷ [])
  fresh-unknown l f =
      let same : on_roster names (l ++ length names ∷ []) ≡ on_roster names l =
      keep_append (λ i. ltb i (length names)) l (length names ∷ []) ∙ (ap (λ (k : List ℕ). on_roster names l ++ k) unknown-dropped ∙ append-nil (on_roster names l))
      in
      record { once = rw same f.once; new = λ i h has. f.new i (rw same at h) has }

  pub unknown-fresh : Fresh names seen (length names ∷ [])
  unfolding NoneTwice
  unknown-fresh = record { once = rw unknown-dropped tt; new = λ i h has. absurd (Memᴰ.not-nil (rw unknown-dropped at h)) }

  -- those of a child, whose set is c, and those that are fresh behind it
  pub fresh-joins :
      (c : ℕ) (l k : List ℕ) → Fresh names seen l → ((i : ℕ) → Among i l → Has c i) → Fresh names (union seen c) k → Fresh names seen (l ++ k)
  fresh-joins c l k f all g =
      let test : ℕ → Bool = λ i. ltb i (length names) in
      let same : on_roster names (l ++ k) ≡ on_roster names l ++ on_roster names k = keep_append test l k in
      record {
        once = rw same
            (none_twice_append (on_roster names l) (on_roster names k) f.once g.once
            (λ i h h'. g.new i h' (union-has_right seen c i (all i (among-keep test l h).0))));
        new = λ i h has.
            ⊎_elim (λ a. f.new i a has) (λ a. g.new i a (union-has_left seen c i has)) (Memᴰ.append_cases (on_roster names l) (rw same at h));
      }
