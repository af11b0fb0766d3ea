-- What a sheet says of its entries (#107): which may change, what each gets, and that it is one outcome.
use Prim.Native.Nat.{ℕ, zero, suc, ◌+◌, ◌*◌, ◌≤◌, ◌<◌}
use mathlib.Core.Path.{◌≡◌, refl, sym, ap, ◌∙◌, subst}
use mathlib.Core.Bool.{true, false, ◌&&◌}
use mathlib.Core.List.{List, [], ◌∷◌, map}
use native.Mathlib.Omega.{arith}
use lib.ListN.{length, get_or, length-map}
use Rattle.clusters.specs.Sets.{whole}
use Rattle.trees.specs.Records.{records_in}
use Rattle.trees.specs.Valid.{valid, binary}
use Rattle.roster.specs.declared.Reply.{Reply}
use Rattle.roster.specs.Judged.{refusal, done}
use Rattle.roster.specs.Verdict.{verdict, value_by}
use Rattle.weights.specs.Count.{score}
use Rattle.weights.specs.declared.Rooting.{Rooting}
use Rattle.lineages.specs.Promise.{Scores}
use Rattle.lineages.proofs.Calls.{scores_no_tree, scores_done}
use Rattle.sheet.specs.declared.Entry.{Entry}
use Rattle.sheet.specs.Promise.{Sheets, sheet_tests, record_at, entry_for, entries_by}
use Rattle.sheet.specs.Work.{Passed}
use Rattle.sheet.proofs.Judged.{passed-shape, passed-genes}
use Rattle.sheet.proofs.Filling.{position-stays, position_decides, single-given, twelve_given}
use Rattle.sheet.proofs.Endings.{entries-kept, not_refused}

-- the element of a list whose elements are changed, each by itself
at_map : {A B : Type 0} (f : A → B) (l : List A) (i : ℕ) (d : A) (c : B) → i < length l → get_or (map f l) i c ≡ f (get_or l i d)
at_map f [] i d c h = absurd (omega arith)
at_map f (x ∷ l) zero d c h = refl
at_map f (x ∷ l) (suc i) d c h = at_map f l i d c (omega arith)

-- ---- the sheet

module _ {rooting : Rooting} {n : ℕ} {genes : List ℕ} {count : ℕ} {records : List ℕ} {entries : List Entry} {r : Reply} {after : List Entry}
    (sheets : Sheets rooting n genes count records entries r after) where
  -- "First 1, 11, 12 and 15 refuse the whole call, no entry altered"
  pub none_altered : (r.number ≡ 0 → ⊥) → after ≡ entries
  none_altered refused =
      sheets.filled ∙ entries-kept (λ e. entry_for rooting n genes count records e) entries (verdict (sheet_tests rooting n genes count)).number
      (λ e. refused (ap (λ (q : Reply). q.number) sheets.reply ∙ e))

  -- else every entry is filled, each by itself
  pub all_filled : r.number ≡ 0 → after ≡ map (λ e. entry_for rooting n genes count records e) entries
  all_filled fine = sheets.filled ∙ rw (not_refused rooting n genes count sheets.reply fine)

  -- the reply has no value
  pub no_value : r.value ≡ 0
  no_value = ap (λ (q : Reply). q.value) sheets.reply ∙ go (verdict (sheet_tests rooting n genes count)).number
    where
      go : (k : ℕ) → value_by k 0 ≡ 0
      go zero = refl
      go (suc k) = refl

  -- what holds of the entries as they were lent, and as all are filled, holds of them after the call
  either_way : (P : List Entry → Type 0) → P entries → P (map (λ e. entry_for rooting n genes count records e) entries) → P after
  either_way P kept all = subst P (sym sheets.filled) (go (verdict (sheet_tests rooting n genes count)).number)
    where
      go : (k : ℕ) → P (entries_by k (λ e. entry_for rooting n genes count records e) entries)
      go zero = all
      go (suc k) = kept

  -- which entries a call may touch: none in its position, and the list keeps its length
  pub as_many : length after ≡ length entries
  as_many = either_way (λ l. length l ≡ length entries) refl (length-map entries (λ e. entry_for rooting n genes count records e))

  pub positions_kept : map (λ e. e.position) after ≡ map (λ e. e.position) entries
  positions_kept = either_way (λ l. map (λ e. e.position) l ≡ map (λ e. e.position) entries) refl (each entries)
    where
      each : (l : List Entry) → map (λ e. e.position) (map (λ e. entry_for rooting n genes count records e) l) ≡ map (λ e. e.position) l
      each [] = refl
      each (e ∷ l) = cc (position-stays rooting n genes count records e, each l)

  -- what the i-th entry gets, where the whole call is not refused
  module _ (fine : r.number ≡ 0) (i : ℕ) (here : i < length entries) (d : Entry) where
    abbrev before : Entry
    before = get_or entries i d

    abbrev species : List ℕ
    species = record_at records before.position

    passed : Passed rooting n genes count
    passed = not_refused rooting n genes count sheets.reply fine

    filled_at : get_or after i d ≡ entry_for rooting n genes count records before
    filled_at = rw (all_filled fine) (at_map (λ e. entry_for rooting n genes count records e) entries i d d here)

    -- "an entry whose record doesn't lie wholly within the lent records gets 12 and score 0"
    pub gets_twelve : length records < 32 * before.position + 32 → get_or after i d ≡ record { position = before.position; number = 12; score = 0 }
    gets_twelve outside = filled_at ∙ twelve_given rooting n genes count records before outside

    module _ (within : 32 * before.position + 32 ≤ length records) where
      -- "Each gets what the single scoring call would give"
      pub gets_single :
          (s : Reply) → Scores rooting n genes count species s → get_or after i d ≡ record { position = before.position; number = s.number; score = s.value }
      gets_single s told = filled_at ∙ single-given rooting n genes count records before s within told

      -- which is the score of a species tree, and else 16
      pub gets_score :
          (valid (whole n) species && binary (whole n) species) ≡ true
          → get_or after i d ≡ record { position = before.position; number = 0; score = score rooting (records_in count genes) species }
      gets_score tree =
          gets_single (done (score rooting (records_in count genes) species))
          (scores_done rooting n genes count species (passed-shape rooting n genes count passed) tree (passed-genes rooting n genes count passed) refl)

      pub gets_sixteen : (valid (whole n) species && binary (whole n) species) ≡ false → get_or after i d ≡ record { position = before.position; number = 16; score = 0 }
      gets_sixteen tree = gets_single (refusal 16 0) (scores_no_tree rooting n genes count species (passed-shape rooting n genes count passed) tree)

  -- two entries with one position get the same
  pub same_position :
      r.number ≡ 0 → (i j : ℕ) → i < length entries → j < length entries → (d : Entry) → (get_or entries i d).position ≡ (get_or entries j d).position
      → get_or after i d ≡ get_or after j d
  same_position fine i j at_i at_j d same =
      filled_at fine i at_i d ∙ position_decides rooting n genes count records (get_or entries i d) (get_or entries j d) same ∙ sym (filled_at fine j at_j d)

-- "An empty sheet is fine": it is judged as any other, and stays empty
pub empty_sheet :
    {rooting : Rooting} {n : ℕ} {genes : List ℕ} {count : ℕ} {records : List ℕ} {r : Reply} {after : List Entry} → Sheets rooting n genes count records [] r after
    → (after ≡ []) × (Passed rooting n genes count → r.number ≡ 0)
empty_sheet sheets = (either_way sheets (λ l. l ≡ []) refl refl, λ passed. ap (λ (q : Reply). q.number) sheets.reply ∙ passed)

-- one outcome: the reply, and what stands in the lent entries
pub sheets_once :
    {rooting : Rooting} {n : ℕ} {genes : List ℕ} {count : ℕ} {records : List ℕ} {entries : List Entry} {r q : Reply} {after behind : List Entry}
    → Sheets rooting n genes count records entries r after → Sheets rooting n genes count records entries q behind → (r ≡ q) × (after ≡ behind)
sheets_once p q = (p.reply ∙ sym q.reply, p.filled ∙ sym q.filled)
