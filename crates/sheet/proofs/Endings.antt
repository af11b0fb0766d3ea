-- How a sheet ends: refused as a whole, or with every entry filled.
use Prim.Native.Nat.{ℕ, zero, suc}
use mathlib.Core.Path.{◌≡◌, refl, sym, ap, ◌∙◌}
use mathlib.Core.List.{List, map}
use Rattle.roster.specs.declared.Reply.{Reply}
use Rattle.faults.specs.Faults.{number as fault_number}
use Rattle.faults.specs.declared.Refusal.{Refusal}
use Rattle.roster.specs.Judged.{done, refused_by}
use Rattle.roster.specs.Verdict.{verdict, reply_of}
use Rattle.weights.specs.declared.Rooting.{Rooting}
use Rattle.lineages.specs.Work.{said}
use Rattle.lineages.proofs.Verdicts.{numbered}
use Rattle.lineages.proofs.Calls.{refused-reply, done_reply}
use Rattle.sheet.specs.declared.Entry.{Entry}
use Rattle.sheet.specs.Promise.{Sheets, sheet_tests, entry_for, entries_by}
use Rattle.sheet.specs.Work.{Passed}

-- a refusal keeps the entries
pub entries-kept : (fill : Entry → Entry) (entries : List Entry) (number : ℕ) → (number ≡ 0 → ⊥) → entries_by number fill entries ≡ entries
entries-kept fill entries zero refused = absurd (refused refl)
entries-kept fill entries (suc number) refused = refl

module _ (rooting : Rooting) (n : ℕ) (genes : List ℕ) (count : ℕ) {r : Reply} (told : r ≡ reply_of (verdict (sheet_tests rooting n genes count)) 0) where
  pub not_refused : r.number ≡ 0 → Passed rooting n genes count
  not_refused e = sym (ap (λ (q : Reply). q.number) told) ∙ e

module _ (rooting : Rooting) (n : ℕ) (genes : List ℕ) (count : ℕ) (records : List ℕ) (entries : List Entry) where
  pub sheet_refused :
      (e : Refusal) → said (fault_number e.fault) e.place ≡ verdict (sheet_tests rooting n genes count) → Sheets rooting n genes count records entries (refused_by e) entries
  sheet_refused e told = record {
    reply = refused-reply 0 (fault_number e.fault) (sym told) (numbered e.fault);
    filled = rw (sym told) (sym (entries-kept (λ e. entry_for rooting n genes count records e) entries (fault_number e.fault) (numbered e.fault)));
  }

  pub sheet_filled :
      {ys : List Entry} → said 0 0 ≡ verdict (sheet_tests rooting n genes count) → ys ≡ map (λ e. entry_for rooting n genes count records e) entries
      → Sheets rooting n genes count records entries (done 0) ys
  sheet_filled told all = record { reply = done_reply 0 (sym told); filled = rw (sym told) all }
