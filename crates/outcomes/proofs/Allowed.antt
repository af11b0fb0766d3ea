-- The allowed clusters of a mode: 2^n bytes, each 0 or 1.
use Prim.Native.Nat.{ℕ, zero, suc, ◌^◌, ◌≤◌, ◌<◌}
use mathlib.Core.Path.{◌≡◌, refl, sym, ap, ◌∙◌}
use mathlib.Core.Bool.{Bool, true, false}
use mathlib.Core.List.{List, [], ◌∷◌, ◌++◌, map, append-nil}
use native.Mathlib.Omega.{arith}
use lib.ListN.{length, get_or, drop, length-append, drop_of_length-le, get_or-replicate, length-replicate}
use Rattle.trees.specs.Lists.{up_to}
use Rattle.roster.specs.declared.Reply.{Reply}
use Rattle.trees.specs.Records.{records_in}
use Rattle.lineages.specs.InOrder.{Shaped, GenesInOrder}
use Rattle.weights.specs.Marks.{shown, flag}
use Rattle.lineages.specs.Promise.{marks, Marks}
use Rattle.weights.specs.declared.Rooting.{Rooting}
use Rattle.lineages.proofs.FirstBad.{checked_in_order}
use Rattle.lineages.proofs.Calls.{marks-below, marks_done}
use Rattle.weights.proofs.Shown.{length-marks}
use Rattle.lineages.proofs.Outcomes.{marks-once}
use Rattle.outcomes.specs.Outcome.{allowed_by}
use Rattle.outcomes.specs.Work.{Genes, Countable, Marked}

-- what no check refuses is valid, and may be counted
pub counted : {rooting : Rooting} {n count : ℕ} {genes : List ℕ} → Countable rooting n count genes → Genes rooting n count genes
counted {rooting} {n} {count} {genes} c =
    let shaped : Shaped n genes count = record {
      some_species = c.some_species;
      few_species = omega (arith, c.few_species);
      some_genes = c.some;
      few_genes = omega (arith, c.few);
      fits = c.lent;
    } in
    let in_order = checked_in_order rooting n genes count c.unrefused shaped in
    record {
      some_species = c.some_species;
      few_species = c.few_species;
      some = c.some;
      few = c.few;
      lent = c.lent;
      valid = in_order.valid;
      enter = in_order.enter;
    }

-- what the program hands on is in order
pub genes_in_order : {rooting : Rooting} {n count : ℕ} {genes : List ℕ} → Genes rooting n count genes → GenesInOrder rooting n genes count
genes_in_order g = record {
  shaped = record {
    some_species = g.some_species;
    few_species = omega (arith, g.few_species);
    some_genes = g.some;
    few_genes = omega (arith, g.few);
    fits = g.lent;
  };
  valid = g.valid;
  enter = g.enter;
}

-- what `mark` leaves in exactly 2^n bytes
pub marked :
    {rooting : Rooting} {n count : ℕ} {genes out : List ℕ} {r : Reply} {after : List ℕ}
    → Countable rooting n count genes → length out ≡ 2 ^ n → Marks rooting n genes count out r after → after ≡ marks rooting n (records_in count genes)
marked {rooting} {n} {count} {genes} {out} {r} {after} c e m =
    let whole-text = marks_done rooting n genes count out (genes_in_order (counted c)).shaped (omega arith) c.unrefused refl in
    (marks-once m whole-text).1
    ∙ (ap (λ (k : List ℕ). k ++ drop (2 ^ n) out) (marks-below rooting n (records_in count genes))
    ∙ (let h : length out ≤ 2 ^ n = omega arith in rw (drop_of_length-le out h, append-nil)))

-- ---- each byte is 0 or 1

flag-low : (b : Bool) → flag b ≤ 1
flag-low true = omega arith
flag-low false = omega arith

all_low : (f : ℕ → ℕ) → ((x : ℕ) → f x ≤ 1) → (l : List ℕ) (i : ℕ) → get_or (map f l) i 0 ≤ 1
all_low f h [] i = omega arith
all_low f h (x ∷ l) zero = h x
all_low f h (x ∷ l) (suc i) = all_low f h l i

allowed-low : (all : Bool) (rooting : Rooting) (n : ℕ) (genes : List (List ℕ)) (a : ℕ) → a < 2 ^ n → get_or (allowed_by all rooting n genes) a 0 ≤ 1
unfolding marks
allowed-low true rooting n genes a h = let e = get_or-replicate {A = ℕ} (2 ^ n) a 1 0 h in omega arith
allowed-low false rooting n genes a h = all_low (λ a. flag (shown rooting genes a)) (λ a. flag-low (shown rooting genes a)) (up_to (2 ^ n)) a

allowed-length : (all : Bool) (rooting : Rooting) (n : ℕ) (genes : List (List ℕ)) → length (allowed_by all rooting n genes) ≡ 2 ^ n
allowed-length true rooting n genes = length-replicate {A = ℕ} (2 ^ n) 1
allowed-length false rooting n genes = ap length (sym (marks-below rooting n genes)) ∙ length-marks rooting (2 ^ n) genes

pub allowed-marked : (all : Bool) (rooting : Rooting) (n : ℕ) (genes : List (List ℕ)) → Marked n (allowed_by all rooting n genes)
allowed-marked all rooting n genes = record { exact = allowed-length all rooting n genes; low = allowed-low all rooting n genes }

-- bytes at the front of an array
pub front_fits : (front behind : List ℕ) {entries : ℕ} → length front ≡ entries → entries ≤ length (front ++ behind)
front_fits front behind e = omega (arith, length-append front behind)
