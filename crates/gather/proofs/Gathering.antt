-- The gene trees one after the other: what a turn does, and what is left to do behind it.
use Prim.Native.Nat.{ℕ, zero, suc, ◌+◌, ◌-◌, ◌*◌, ◌≤◌, ◌<◌}
use mathlib.Core.Path.{◌≡◌, refl, sym, ap, ◌∙◌}
use mathlib.Core.Bool.{Bool, true, false}
use mathlib.Core.List.{List, [], ◌∷◌, ◌++◌, append-nil, append_assoc}
use native.Mathlib.Omega.{arith}
use lib.ListN.{length, length-append}
use lib.Seq.{sets, length-sets}
use lib.Dec.{leb}
use borrow.Author.Tests.{le-leb, lt-leb, leb-false}
use Rattle.faults.specs.Faults.{number}
use Rattle.faults.specs.declared.Fault.TheVariants.{TooLarge}
use Rattle.faults.specs.declared.Refusal.{Refusal}
use Rattle.trees.specs.Lists.{pieces}
use Rattle.std.proofs.Common.{None, Result, Ok, Err}
use Rattle.roster.proofs.Refusals.{number-some}
use Rattle.reader.specs.Promise.{answer_to, reading_of, reading_by, Reads}
use Rattle.reader.specs.declared.Drawn.{Drawn}
use Rattle.reader.specs.declared.Kind.TheVariants.{Gene}
use Rattle.reader.specs.declared.Reading.{Reading}
use Rattle.trees.specs.Records.{records_in}
use Rattle.trees.proofs.Lent.{length-records_in}
use Rattle.trees.proofs.Stores.{sets_append}
use Rattle.gather.specs.GeneTrees.{Gathered, Walked, ended, halted, gather_on, gather_at, gather_more, begun, gather_to, walk, gather}
use Rattle.gather.specs.GeneTrees.Gathered.{gathered, stopped}
use Rattle.gather.specs.Work.{gathered_in, joined, Gathers}
use Rattle.gather.proofs.Kept.{records_more}

module _ (line trees : List ℕ) where
  -- what is left to do where a tree or the end stands at p, behind the gene trees that were read; k more turns may follow
  unfoldable pub left_from : ℕ → List (List ℕ) → ℕ → Walked
  left_from k genes p =
      gather_more (leb (length trees) p) line trees genes p (λ numbers next. gather_to k line trees (genes ++ (numbers ∷ [])) next)

  pub left_first : left_from 513 [] (begun trees 0) ≡ walk line trees
  unfolding left_from walk gather_to
  left_first = refl

  module _ (k : ℕ) (genes : List (List ℕ)) (p : ℕ) where
    -- "trees until only blanks remain"
    pub left_none : length trees ≤ p → left_from k genes p ≡ ended genes
    unfolding left_from
    left_none h = rw (le-leb (length trees) p h)

    -- "a 513th tree is 17"
    pub left_many : p < length trees → length genes ≡ 512 → left_from k genes p ≡ halted genes 17 p
    unfolding left_from
    left_many h e = rw (lt-leb (length trees) p h, le-leb 512 (length genes) (omega arith))

    -- a tree is refused
    pub left_refused :
        (r : Reading) → p < length trees → length genes < 512 → Reads Gene None line trees p r → (r.number ≡ 0 → ⊥)
        → left_from k genes p ≡ halted genes r.number r.place
    unfolding left_from Reads
    left_refused r h l e some = rw (lt-leb (length trees) p h, lt-leb 512 (length genes) l, ← e) (go r.number refl)
      where
        go :
            (number : ℕ) → r.number ≡ number
            → gather_on number r genes (λ numbers next. gather_to k line trees (genes ++ (numbers ∷ [])) next) ≡ halted genes number r.place
        go zero z = absurd (some z)
        go (suc number) z = refl

  -- a tree is read
  pub left_read :
      (k : ℕ) (genes : List (List ℕ)) (p : ℕ) (r : Reading)
      → p < length trees → length genes < 512 → Reads Gene None line trees p r → r.number ≡ 0
      → left_from (suc k) genes p ≡ left_from k (genes ++ (r.numbers ∷ [])) (begun trees r.next)
  unfolding left_from Reads gather_to
  left_read k genes p r h l e z = rw (lt-leb (length trees) p h, lt-leb 512 (length genes) l, ← e, z)

-- ---- the loop

joined_more : (l : List (List ℕ)) (r : List ℕ) → joined (l ++ (r ∷ [])) ≡ joined l ++ r
unfolding joined
joined_more [] r = append-nil r
joined_more (x ∷ l) r = ap (λ (k : List ℕ). x ++ k) (joined_more l r) ∙ sym (append_assoc x (joined l) r)

-- count records stand in the numbers, in front of what was lent, and what is left to do from `at` on gives what is asked
pub record Left (line trees lent : List ℕ) (count : ℕ) (genes : List ℕ) (at : ℕ) : Type 0 where
  pub few : count ≤ 512
  pub long : length genes ≡ 16384
  pub same : left_from line trees (513 - count) (records_in count genes) at ≡ walk line trees
  pub size : length (joined (records_in count genes)) ≡ 32 * count
  pub stands : genes ≡ sets lent 0 (joined (records_in count genes))

pub left_begins : {line trees lent : List ℕ} {at : ℕ} → length lent ≡ 16384 → at ≡ begun trees 0 → Left line trees lent 0 lent at
unfolding pieces joined
left_begins {line} {trees} e place =
    record { few = omega arith; long = e; same = rw place (left_first line trees); size = refl; stands = refl }

module _ {line trees lent : List ℕ} {count : ℕ} {genes : List ℕ} {at : ℕ} (now : Left line trees lent count genes at) where
  -- where nothing is left to do, all that was read stands there
  answers : {r : Result ℕ Refusal} (says : Gathered) → record { read = records_in count genes; says = says } ≡ walk line trees → gathered_in genes r ≡ says → Gathers line trees lent r genes
  unfolding gather
  answers says e told = record {
    answer = told ∙ ap (λ (w : Walked). w.says) e;
    numbers = now.stands ∙ ap (λ (w : Walked). sets lent 0 (joined w.read)) e;
  }

  pub left_done : length trees ≤ at → Gathers line trees lent (Ok count) genes
  left_done h =
      answers (gathered (records_in count genes)) (sym (left_none line trees (513 - count) (records_in count genes) at h) ∙ now.same) refl

  pub left_full : at < length trees → count ≡ 512 → {e : Refusal} → e ≡ record { fault = TooLarge; place = at } → Gathers line trees lent (Err e) genes
  left_full h full e =
      answers (stopped 17 at) (sym (left_many line trees (513 - count) (records_in count genes) at h (length-records_in count genes ∙ full)) ∙ now.same)
      (ap (λ (e : Refusal). stopped (number e.fault) e.place) e)

  module _ (inside : at < length trees) (room : count ≡ 512 → ⊥) where
    below : length (records_in count genes) < 512
    below = omega (arith, length-records_in count genes, now.few, room)

    pub left_stops : (e : Refusal) → Reads Gene None line trees at (reading_by at (Err e)) → Gathers line trees lent (Err e) genes
    left_stops e read =
        let some : number e.fault ≡ 0 → ⊥ = λ z. omega (arith, number-some e.fault) in
        answers (stopped (number e.fault) e.place)
        (sym (left_refused line trees (513 - count) (records_in count genes) at (reading_by at (Err e)) inside below read some) ∙ now.same) refl

    pub left_goes :
        (r : Drawn) {genes' : List ℕ} {at' : ℕ} → Reads Gene None line trees at (reading_by at (Ok r)) → length r.numbers ≡ 32
        → genes' ≡ sets genes (32 * count) r.numbers → at' ≡ begun trees r.next → Left line trees lent (count + 1) genes' at'
    left_goes r {genes'} {at'} read e stored place =
        let fits : 32 * count + 32 ≤ length genes = omega (arith, now.few, now.long, room) in
        let turns : 513 - count ≡ suc (513 - (count + 1)) = omega (arith, now.few, room) in
        let front = joined (records_in count genes) in
        let records = ap (records_in (count + 1)) stored ∙ records_more count genes r.numbers e fits in
        let more = ap joined records ∙ joined_more (records_in count genes) r.numbers in
        let behind : 32 * count ≡ 0 + length front = omega (arith, now.size) in
        record {
          few = omega (arith, now.few, room);
          long = ap length stored ∙ (length-sets genes (32 * count) r.numbers ∙ now.long);
          same =
              rw (records, place)
              (sym (left_read line trees (513 - (count + 1)) (records_in count genes) at (reading_by at (Ok r)) inside below read refl) ∙ (rw turns at now.same));
          size = omega (arith, ap length more, length-append front r.numbers, now.size);
          stands =
              stored ∙ ap (λ (l : List ℕ). sets l (32 * count) r.numbers) now.stands
              ∙ ap (λ (n : ℕ). sets (sets lent 0 front) n r.numbers) behind
              ∙ sets_append lent 0 front r.numbers
              ∙ ap (λ (l : List ℕ). sets lent 0 l) (sym more);
        }

-- ---- 513 turns are enough: more of them change nothing

module _ (line trees : List ℕ) where
  module _
      (k k' : ℕ) (genes : List (List ℕ)) (p : ℕ)
      (later :
      (numbers : List ℕ) (at : ℕ) → length genes < 512
      → gather_to k line trees (genes ++ (numbers ∷ [])) at ≡ gather_to k' line trees (genes ++ (numbers ∷ [])) at)
    where
      same_on :
          length genes < 512 → (number : ℕ) (r : Reading)
          → gather_on number r genes (λ numbers at. gather_to k line trees (genes ++ (numbers ∷ [])) at)
          ≡ gather_on number r genes (λ numbers at. gather_to k' line trees (genes ++ (numbers ∷ [])) at)
      same_on few zero r = later r.numbers r.next few
      same_on few (suc number) r = refl

      same_at :
          (b : Bool) → leb 512 (length genes) ≡ b
          → gather_at b line trees genes p (λ numbers at. gather_to k line trees (genes ++ (numbers ∷ [])) at)
          ≡ gather_at b line trees genes p (λ numbers at. gather_to k' line trees (genes ++ (numbers ∷ [])) at)
      same_at true e = refl
      same_at false e =
          same_on (leb-false 512 (length genes) e) (reading_of None p (answer_to Gene None line trees p)).number
          (reading_of None p (answer_to Gene None line trees p))

      same_more :
          (b : Bool)
          → gather_more b line trees genes p (λ numbers at. gather_to k line trees (genes ++ (numbers ∷ [])) at)
          ≡ gather_more b line trees genes p (λ numbers at. gather_to k' line trees (genes ++ (numbers ∷ [])) at)
      same_more true = refl
      same_more false = same_at (leb 512 (length genes)) refl

  same_turns :
      (k k' : ℕ) (genes : List (List ℕ)) (at : ℕ) → length genes ≤ 512 → 513 ≤ length genes + k → 513 ≤ length genes + k'
      → gather_to k line trees genes at ≡ gather_to k' line trees genes at
  unfolding gather_to
  same_turns zero k' genes at few e e' = absurd (omega arith)
  same_turns (suc k) zero genes at few e e' = absurd (omega arith)
  same_turns (suc k) (suc k') genes at few e e' =
      same_more k k' genes (begun trees at)
      (λ numbers next room.
      let l = length-append genes (numbers ∷ []) in
      same_turns k k' (genes ++ (numbers ∷ [])) next (omega arith) (omega arith) (omega arith))
      (leb (length trees) (begun trees at))

  pub turns-enough : (k : ℕ) → 513 ≤ k → gather_to k line trees [] 0 ≡ walk line trees
  unfolding walk
  turns-enough k h = same_turns k 514 [] 0 (omega arith) (omega arith) (omega arith)
