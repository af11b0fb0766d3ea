-- What a refused reply holds, what stands in the lent buffers then, and that a call that is done has place 0.
use Prim.Native.Nat.{ℕ, zero, suc, ◌^◌}
use mathlib.Core.Path.{◌≡◌, refl, sym, ap, ◌∙◌}
use mathlib.Core.Logic.{◌⊎◌, inl, inr}
use mathlib.Core.Bool.{Bool, true, false}
use mathlib.Core.Option.{Option, some, none}
use mathlib.Core.List.Memᴰ
use mathlib.Core.List.Memᴰ.{head as here}
use mathlib.Core.List.Memᴰ.{tail as there}
use mathlib.Core.List.{List, [], ◌∷◌, ◌++◌, map}
use native.Mathlib.Omega.{arith}
use lib.ListN.{drop}
use Rattle.trees.specs.Lists.{Among, up_to}
use Rattle.roster.specs.Verdict.{Test, Verdict, verdict, verdict_by, reply_of}
use Rattle.roster.specs.declared.Reply.{Reply}
use Rattle.writer.specs.Promise.{out_by}
use Rattle.weights.specs.declared.Rooting.{Rooting}
use Rattle.lineages.specs.Promise.{marked_by}
use Rattle.lineages.proofs.Verdicts.{NoneGives, verdict-never}
use Rattle.splits.specs.BinaryTrees.{Binary}
use Rattle.search.specs.Promise.{filled_by}
use Rattle.terms.specs.Answers.{without, found_or}
use Rattle.splits.specs.Best.{found_by}
use Rattle.terms.specs.declared.Found.{Found}
use Rattle.demands.specs.Outcomes.{TurnedAway, NotFound}

-- ---- the first test that finds a fault

-- the number of a list of tests is 0, or that of one of them
pub verdict-listed : (l : List Test) → ((verdict l).number ≡ 0) ⊎ Among (verdict l).number (map (λ (t : Test). t.number) l)
unfolding verdict
verdict-listed [] = inl refl
verdict-listed (t ∷ l) = go t.fault (verdict-listed l)
  where
    later : ((verdict l).number ≡ 0) ⊎ Among (verdict l).number (map (λ (t : Test). t.number) l)
        → ((verdict l).number ≡ 0) ⊎ Among (verdict l).number (t.number ∷ map (λ (t : Test). t.number) l)
    later (inl z) = inl z
    later (inr m) = inr (there m)

    go : (b : Bool) → ((verdict l).number ≡ 0) ⊎ Among (verdict l).number (map (λ (t : Test). t.number) l)
        → ((verdict_by b t (verdict l)).number ≡ 0) ⊎ Among (verdict_by b t (verdict l)).number (t.number ∷ map (λ (t : Test). t.number) l)
    go true h = inr (here refl)
    go false h = later h

-- the same test twice has no other number than once
pub among-once : {x a : ℕ} {l : List ℕ} → Among x (a ∷ a ∷ l) → Among x (a ∷ l)
among-once {x} {a} {l} h = go (Memᴰ.cases_cons h)
  where
    go : (x ≡ a) ⊎ Among x (a ∷ l) → Among x (a ∷ l)
    go (inl e) = here e
    go (inr k) = k

-- a list with another front
pub among-behind : {x a : ℕ} {l k : List ℕ} → (Among x l → Among x k) → Among x (a ∷ l) → Among x (a ∷ k)
among-behind {x} {a} {l} {k} f h = go (Memᴰ.cases_cons h)
  where
    go : (x ≡ a) ⊎ Among x l → Among x (a ∷ k)
    go (inl e) = here e
    go (inr m) = there (f m)

-- a reply whose number is not 0
pub reply_of-refused : (l : List Test) (v : ℕ) (r : Reply) → r ≡ reply_of (verdict l) v → (r.number ≡ 0 → ⊥) → TurnedAway (map (λ (t : Test). t.number) l) r
reply_of-refused l v r e f = go (verdict l) e (verdict-listed l)
  where
    zeroed : (k place : ℕ) → r ≡ reply_of (record { number = k; place = place }) v → r.value ≡ 0
    zeroed zero place e = absurd (f (ap (λ (r : Reply). r.number) e))
    zeroed (suc k) place e = ap (λ (r : Reply). r.value) e

    go : (said : Verdict) → r ≡ reply_of said v → (said.number ≡ 0) ⊎ Among said.number (map (λ (t : Test). t.number) l)
        → TurnedAway (map (λ (t : Test). t.number) l) r
    go said e (inl z) = absurd (f (ap (λ (r : Reply). r.number) e ∙ z))
    go said e (inr m) = record { listed = rw (ap (λ (r : Reply). r.number) e) m; value = zeroed said.number said.place e }

-- ---- the lent buffers

-- a lent buffer is as it was, unless the number is 0
pub out_by-refused : (k : ℕ) (text out : List ℕ) → (k ≡ 0 → ⊥) → out_by k text out ≡ out
out_by-refused zero text out f = absurd (f refl)
out_by-refused (suc k) text out f = refl

pub marked_by-refused : (rooting : Rooting) (k n : ℕ) (genes : List (List ℕ)) (out : List ℕ) → (k ≡ 0 → ⊥) → marked_by rooting k n genes out ≡ out
marked_by-refused rooting zero n genes out f = absurd (f refl)
marked_by-refused rooting (suc k) n genes out f = refl

pub filled_by-refused : (k n : ℕ) (entry : ℕ → ℕ) (lent : List ℕ) → (k ≡ 0 → ⊥) → filled_by k n entry lent ≡ lent
filled_by-refused zero n entry lent f = absurd (f refl)
filled_by-refused (suc k) n entry lent f = refl

-- ---- the search

-- 14
missed : (rooting : Rooting) (o : Option Binary) (genes : List (List ℕ)) → ((found_by rooting o genes).number ≡ 0 → ⊥) → found_by rooting o genes ≡ without 14 0
missed rooting none genes f = refl
missed rooting (some t) genes f = absurd (f refl)

-- no test found a fault, and there is no tree; or one did
pub data Refused (said : Verdict) (r : Found) : Type 0 where
  without_tree : said.number ≡ 0 → r ≡ without 14 0 → Refused said r
  by_test : (said.number ≡ 0 → ⊥) → r ≡ without said.number said.place → Refused said r

-- a table that was filled: its first 2^n entries are new, the others stay
pub filled : (k n : ℕ) (entry : ℕ → ℕ) (lent after : List ℕ) → after ≡ filled_by k n entry lent → k ≡ 0 → after ≡ map entry (up_to (2 ^ n)) ++ drop (2 ^ n) lent
filled zero n entry lent after e z = e
filled (suc k) n entry lent after e z = absurd (omega arith)

-- a refusal comes in one of these two ways
pub refused-ways :
    (said : Verdict) (rooting : Rooting) (tree : Option Binary) (genes : List (List ℕ)) (r : Found)
    → r ≡ found_or said.number said.place (found_by rooting tree genes) → (r.number ≡ 0 → ⊥) → Refused said r
refused-ways said rooting tree genes r told refusal = go said.number said.place told
  where
    go : (k q : ℕ) → r ≡ found_or k q (found_by rooting tree genes) → Refused (record { number = k; place = q }) r
    go zero q e = without_tree refl (e ∙ missed rooting tree genes (λ z. refusal (ap (λ (r : Found). r.number) e ∙ z)))
    go (suc k) q e = by_test (λ z. omega arith) e

-- its number is that of a test, or 14; "score 0 .. an all-zero record"
pub refused_not_found :
    (l : List Test) (numbers : List ℕ) {r : Found} → Refused (verdict l) r → ((x : ℕ) → Among x (map (λ (t : Test). t.number) l) → Among x numbers)
    → Among 14 numbers → NotFound numbers r
refused_not_found l numbers {r} ways listed fourteen = go ways (verdict-listed l)
  where
    go : Refused (verdict l) r → ((verdict l).number ≡ 0) ⊎ Among (verdict l).number (map (λ (t : Test). t.number) l) → NotFound numbers r
    go (without_tree z e) m = rw e (record { listed = fourteen; score = refl; numbers_zero = refl })
    go (by_test f e) (inl z) = absurd (f z)
    go (by_test f e) (inr m) = rw e (record { listed = listed (verdict l).number m; score = refl; numbers_zero = refl })

-- another number than 14 comes from a test, and 14 from none
pub refused_by_test : {said : Verdict} {r : Found} → Refused said r → (r.number ≡ 14 → ⊥) → said.number ≡ 0 → ⊥
refused_by_test (without_tree z e) other = absurd (other (ap (λ (r : Found). r.number) e))
refused_by_test (by_test f e) other = f

-- nor does another number than 14 come where no test has it
pub refused-never : (l : List Test) (m : ℕ) {r : Found} → (m ≡ 0 → ⊥) → (m ≡ 14 → ⊥) → NoneGives m l → Refused (verdict l) r → r.number ≡ m → ⊥
refused-never l m nonzero other never (without_tree z e) is = other (sym is ∙ ap (λ (r : Found). r.number) e)
refused-never l m nonzero other never (by_test f e) is = verdict-never m l (λ z. nonzero (sym z)) never (sym (ap (λ (r : Found). r.number) e) ∙ is)

pub refused_by_none : (l : List Test) {r : Found} → NoneGives 14 l → Refused (verdict l) r → r.number ≡ 14 → (verdict l).number ≡ 0
refused_by_none l never (without_tree z e) is = z
refused_by_none l never (by_test f e) is = absurd (verdict-never 14 l (λ z. omega arith) never (sym (ap (λ (r : Found). r.number) e) ∙ is))

-- ---- "0 | done | 0"

-- tests of which none finds a fault give place 0
verdict_done : (l : List Test) → NoneGives 0 l → (verdict l).number ≡ 0 → (verdict l).place ≡ 0
unfolding verdict NoneGives
verdict_done [] h z = refl
verdict_done (t ∷ l) h z = go t.fault z (verdict_done l h.1)
  where
    go : (b : Bool) → (verdict_by b t (verdict l)).number ≡ 0 → ((verdict l).number ≡ 0 → (verdict l).place ≡ 0) → (verdict_by b t (verdict l)).place ≡ 0
    go true z later = absurd (h.0 z)
    go false z later = later z

-- a reply with number 0 has place 0
pub reply_of_done : (l : List Test) (v : ℕ) (r : Reply) → r ≡ reply_of (verdict l) v → NoneGives 0 l → r.number ≡ 0 → r.place ≡ 0
reply_of_done l v r e h z = ap (λ (r : Reply). r.place) e ∙ verdict_done l h (sym (ap (λ (r : Reply). r.number) e) ∙ z)

-- and so has a search's reply
pub found_done :
    (said : Verdict) (rooting : Rooting) (tree : Option Binary) (genes : List (List ℕ)) (r : Found)
    → r ≡ found_or said.number said.place (found_by rooting tree genes) → r.number ≡ 0 → r.place ≡ 0
found_done said rooting tree genes r told z = go said.number said.place told
  where
    there_is : (o : Option Binary) → (found_by rooting o genes).place ≡ 0
    there_is none = refl
    there_is (some t) = refl

    go : (k q : ℕ) → r ≡ found_or k q (found_by rooting tree genes) → r.place ≡ 0
    go zero q e = ap (λ (r : Found). r.place) e ∙ there_is tree
    go (suc k) q e = absurd (omega (arith, ap (λ (r : Found). r.number) e))
