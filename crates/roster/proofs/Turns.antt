-- Reading a roster line label by label: what is known where a label has to begin, and what each way on from there gives.
use Prim.Native.Nat.{ℕ, suc, ◌+◌, ◌-◌, ◌*◌, ◌≤◌, ◌<◌, zero-le}
use native.Mathlib.Nat.{not-suc-le-zero, add-zero, le_refl}
use native.Mathlib.Decide.{dec_lt}
use native.Mathlib.Omega.{arith}
use native.Mathlib.Numerals.{add-one}
use mathlib.Core.Path.{◌≡◌, refl, sym, ap, ◌∙◌}
use mathlib.Core.Bool.{true, false, true≢false}
use mathlib.Core.List.{List, [], ◌∷◌, ◌++◌}
use lib.ListN.{length, get_or, drop, replicate, length-append, length-drop, length-replicate}
use lib.Seq.{get_or-drop, take_all, drop-cons, paste, length-paste}
use lib.Dec.{eqb}
use Rattle.std.specs.Prelude.{Ok, Err}
use Rattle.faults.specs.declared.Fault.{Fault}
use Rattle.faults.specs.declared.Fault.TheVariants.{FaultyRoster}
use Rattle.labels.specs.Bytes.{is_label}
use Rattle.labels.specs.Labels.{padded}
use Rattle.labels.proofs.Scans.{Ends, Fails}
use Rattle.labels.proofs.Telling.{ended-short}
use Rattle.trees.specs.Lists.{up_to, some}
use Rattle.roster.specs.Roster.{byte_at, byte_before, in_quotes, quoted_at, fresh_at, begins, beginnings, name_at, names, position, fault_at, stray_at, long_at, again_at, open_at}
use Rattle.roster.specs.Table.{table, slots}
use Rattle.roster.specs.Judged.{roster_of}
use Rattle.roster.proofs.Beginnings.{names_to, names_to_end, as_many, none_yet, with_more, no_more_upto, each-begun}
use Rattle.roster.proofs.Beyond.{before-beyond, begins_beyond, stray-beyond, open_beyond, long-beyond, no_long_beyond}
use Rattle.roster.proofs.Each.{Each, each_still}
use Rattle.roster.proofs.Faults.{Clean, faulty_roster, roster_good}
use Rattle.roster.proofs.Places.{no_stray_first, no_stray_end, stray-fresh, fresh-apart, begins_first, no_many, no_again, many_here, few_here, again_here, new_here, faulty_no_again, no_open, no_open_after, open_fresh, fault-stray, fault-long, fault_many, fault-again, fault_open, fault_none}
use Rattle.roster.proofs.Padding.{Fitting, letters-fit, padded-length, position-padded}
use Rattle.roster.proofs.Parity.{quotes_more, quotes-beyond}
use Rattle.roster.proofs.Spans.{Fine, no_long, Spans, Own, Kind, kind, spanned, stopped}
use Rattle.roster.proofs.Spans.Own.{strays, longs, opens}
use Rattle.roster.proofs.Tables.{Short, table_none, table_more, slots-table}

-- where a label has to begin at `at`: no fault before it, and the names before it are in the table
pub record Begun (most : ℕ) (line held : List ℕ) (count at : ℕ) : Type 0 where
  pub within : at ≤ length line
  pub fresh : fresh_at line at ≡ true
  pub even : quoted_at line at ≡ false
  pub clean : Clean most line at
  pub counted : count ≡ length (names_to line at)
  pub tabled : held ≡ table (names_to line at)
  pub long : length held ≡ 512
  pub short : (q : ℕ) → q < at → begins line q ≡ true → length (name_at line q) ≤ 15
  pub few : count ≤ most

pub begun_none : (most : ℕ) (line : List ℕ) → Begun most line (replicate 512 0) 0 0
unfolding in_quotes
begun_none most line =
    record {
      within = zero-le;
      fresh = refl;
      even = refl;
      clean = λ q l. absurd (not-suc-le-zero l);
      counted = rw (none_yet line);
      tabled = rw (none_yet line) table_none;
      long = length-replicate {A = ℕ} 512 0;
      short = λ q l. absurd (not-suc-le-zero l);
      few = zero-le;
    }

-- a label begins at `at`
pub record Starts (line : List ℕ) (at : ℕ) : Type 0 where
  pub here : at < length line
  pub label : is_label (byte_at line at) ≡ true
  pub fresh : fresh_at line at ≡ true
  pub even : quoted_at line at ≡ false

-- what a faulty roster is
abbrev pub FaultyAt : ℕ → List ℕ → ℕ → Type 0
FaultyAt most line p = Err (record { fault = FaultyRoster; place = p }) ≡ roster_of most line

-- names that are short enough wherever their labels begin before `at`
abbrev pub ShortTo : List ℕ → ℕ → Type 0
ShortTo line at = (q : ℕ) → q < at → begins line q ≡ true → length (name_at line q) ≤ 15

module _ (line : List ℕ) (at : ℕ) (n : Starts line at) where
  abbrev s : List ℕ
  s = drop at line

  pub begins_here : begins line at ≡ true
  begins_here = begins_first line at n.label n.fresh n.even

  pub begins_front : begins s 0 ≡ true
  begins_front = sym (begins_beyond line at n.fresh n.even 0) ∙ ap (begins line) (add-zero at) ∙ begins_here

  pub label-kind : Kind s
  label-kind = kind s begins_front

  left : length s ≡ length line - at
  left = length-drop at line

  -- a label's own fault is a fault of the line
  pub own-fault : (most d : ℕ) → Own s d → 0 < d → fault_at most line (at + d) ≡ true
  own-fault most d (strays e) h = fault-stray line (at + d) most (stray-beyond line at n.fresh n.even d h ∙ e)
  own-fault most d (longs e) h = fault-long line (at + d) most (long-beyond line at n.fresh n.even d e)
  own-fault most d (opens e) h =
      let here = n.here in fault_open line (at + d) most (open_beyond line at n.fresh n.even d h (omega arith) ∙ e)

  -- no label begins within it
  pub begins_within : (j : ℕ) → begins s j ≡ false → begins line (at + j) ≡ false
  begins_within j e = begins_beyond line at n.fresh n.even j ∙ e

  module _ (most : ℕ) (short : ShortTo line at) where
    -- a byte of it that is fine has no fault
    pub fine-clean : (j : ℕ) → 0 < j → Fine s j → long_at s j ≡ false → j < length s → fault_at most line (at + j) ≡ false
    fine-clean j h f l m =
        let none = begins_within j f.begin in
        let e = left in
        fault_none line (at + j) most (stray-beyond line at n.fresh n.even j h ∙ f.stray) (no_long_beyond line at n.fresh n.even j short l)
        (no_many line (at + j) most none) (no_again line (at + j) none) (no_open line (at + j) (omega arith))

    no_long_first : long_at line at ≡ false
    unfolding long_at up_to some
    no_long_first = ap (long_at line) (sym (add-zero at)) ∙ no_long_beyond line at n.fresh n.even 0 short refl

    -- nor has its first byte, where it is neither one too many nor repeated
    pub first_clean : (length (beginnings line at) ≡ most → ⊥) → again_at line at ≡ false → fault_at most line at ≡ false
    first_clean fewer new =
        fault_none line at most (no_stray_first line at n.even n.fresh n.label) no_long_first (few_here line at most fewer) new (no_open line at n.here)

    -- up to d bytes that are fine no fault stands
    pub clean_until : Clean most line at → fault_at most line at ≡ false → (d : ℕ) → d ≤ length s → ((j : ℕ) → 0 < j → j < d → Fine s j)
        → ((j : ℕ) → j < d → long_at s j ≡ false) → Clean most line (at + d)
    clean_until before first d w fine early q l = by (dec_lt q at) (dec_lt at q)
      where
        by : Dec (q < at) → Dec (at < q) → fault_at most line q ≡ false
        by (yes less) e = before q less
        by (no o) (yes more) =
            let e : at + (q - at) ≡ q = omega arith in
            ap (fault_at most line) (sym e) ∙ fine-clean (q - at) (omega arith) (fine (q - at) (omega arith) (omega arith)) (early (q - at) (omega arith)) (omega arith)
        by (no o) (no o') = let e : at ≡ q = omega arith in rw (← e) first

-- the ways that end before the name has been looked up
module _ (most : ℕ) (line held : List ℕ) (count at : ℕ) (b : Begun most line held count at) where
  pub stray_first : at < length line → is_label (byte_at line at) ≡ false → FaultyAt most line at
  stray_first h e =
      let apart = fresh-apart line at b.fresh in
      faulty_roster most line at b.within (fault-stray line at most (stray-fresh line at h b.even e apart.0 apart.1)) b.clean

  pub open_end : length line ≤ at → FaultyAt most line (length line)
  open_end h =
      let w = b.within in
      let e : at ≡ length line = omega arith in
      rw (← e) (faulty_roster most line at w (fault_open line at most (open_fresh line at e b.fresh)) b.clean)

  -- how many have begun
  begun-count : length (beginnings line at) ≡ count
  begun-count = sym (as_many line at) ∙ sym b.counted

  module _ (n : Starts line at) where
    pub too_many : count ≡ most → FaultyAt most line at
    too_many m = faulty_roster most line at b.within (fault_many line at most (many_here line at most (begins_here line at n) (begun-count ∙ m))) b.clean

    module _ (fewer : count ≡ most → ⊥) where
      few : length (beginnings line at) ≡ most → ⊥
      few m = fewer (sym begun-count ∙ m)

      -- a label at fault is not compared
      pub at_fault_lem : (fault : Fault) (place : ℕ) → Fails line at fault place → FaultyAt most line place
      at_fault_lem fault place f =
          let s = drop at line in
          let stops = stopped s fault f.d f.says (label-kind line at n) in
          let w = stops.within in
          let here = n.here in
          let left = length-drop at line in
          rw f.there (faulty_roster most line (at + f.d) (omega arith) (own-fault line at n most f.d stops.own stops.some)
          (clean_until line at n most b.short b.clean (first_clean line at n most b.short few (faulty_no_again line at fault f.d f.says))
          f.d w stops.fine stops.early))

-- a label that begins at `at` ends before `next`; its name is looked up in the table
pub record Met (most : ℕ) (line held : List ℕ) (count at next : ℕ) (name : List ℕ) : Type 0 where
  pub room : most ≤ 32
  pub begun : Begun most line held count at
  pub starts : Starts line at
  pub fewer : count ≡ most → ⊥
  pub ends : Ends line at next name

-- the ways from there
module _ (most : ℕ) (line held : List ℕ) (count at next : ℕ) (name : List ℕ) (m : Met most line held count at next name) where
  -- where the name was found
  abbrev found : ℕ
  found = position name (slots count held)

  abbrev size : ℕ
  size = m.ends.n

  is_name_lem : name ≡ padded (name_at line at)
  unfolding name_at
  is_name_lem = m.ends.named

  name-short : length (name_at line at) ≤ 15
  unfolding name_at
  name-short = ended-short (drop at line) size m.ends.says

  name-fits : Fitting (name_at line at)
  unfolding name_at
  name-fits = letters-fit (drop at line) name-short

  names-fit : Each Fitting (names_to line at)
  unfolding name_at
  names-fit = each-begun line Fitting at (λ p h e. letters-fit (drop p line) (m.begun.short p h e))

  names-short : Each Short (names_to line at)
  names-short = each_still Fitting Short (λ w f. f.short) (names_to line at) names-fit

  -- the table tells where the name stands among the names
  found_at : found ≡ position (name_at line at) (names_to line at)
  found_at =
      rw (is_name_lem, m.begun.tabled, m.begun.counted, slots-table (names_to line at) names-short)
      (position-padded (name_at line at) (names_to line at) name-fits names-fit)

  pub repeated : found < count → FaultyAt most line at
  repeated known =
      let begun = m.begun in
      let p = found_at in
      let c = begun-count most line held count at begun in
      faulty_roster most line at begun.within
      (fault-again line at most (again_here line at size (begins_here line at m.starts) m.ends.says (omega arith))) begun.clean

  -- the label's bytes
  spans : Spans (drop at line) size
  spans = spanned (drop at line) size m.ends.says (label-kind line at m.starts)

  pub next_within : (at < next) × (next ≤ length line)
  next_within =
      let some = spans.some in
      let w = spans.within in
      let left = length-drop at line in
      let e = m.ends.place in
      let here = m.starts.here in
      omega arith

  no_long_within : (j : ℕ) → j ≤ size → long_at (drop at line) j ≡ false
  no_long_within j h =
      let few = ended-short (drop at line) size m.ends.says in
      no_long (drop at line) j (λ i k l. (spans.fine i k (omega arith)).begin) (λ long e. absurd (omega arith))

  module _ (new : count ≤ found) where
    clean_next : Clean most line next
    clean_next =
        let begun = m.begun in
        let c = begun-count most line held count at begun in
        let unknown : length (beginnings line at) ≤ position (name_at line at) (names_to line at) = let p = found_at in omega arith in
        rw m.ends.place (clean_until line at m.starts most begun.short begun.clean
        (first_clean line at m.starts most begun.short (λ e. m.fewer (sym c ∙ e)) (new_here line at unknown))
        size spans.within spans.fine (λ j l. no_long_within j (omega arith)))

    table_next : paste held (16 * count) name 16 ≡ table (names_to line at ++ (name_at line at ∷ []))
    table_next =
        let n : length (names_to line at) < 32 = let f = m.begun.few in let c = m.begun.counted in let d = m.fewer in let r = m.room in omega arith in
        rw (is_name_lem, m.begun.tabled, m.begun.counted) (table_more (names_to line at) (name_at line at) n names-short name-fits.short)

    count_next : count + 1 ≡ length (names_to line at ++ (name_at line at ∷ []))
    count_next = rw (length-append, ← m.begun.counted)

    -- no label begins behind its first byte, up to the byte behind it
    none_begins : (q : ℕ) → at < q → q ≤ next → begins line q ≡ false
    none_begins q h l =
        let e : at + (q - at) ≡ q = omega arith in
        ap (begins line) (sym e) ∙ begins_within line at m.starts (q - at) (by (dec_lt (q - at) size))
      where
        by : Dec (q - at < size) → begins (drop at line) (q - at) ≡ false
        by (yes less) = (spans.fine (q - at) (omega arith) less).begin
        by (no n) = let p = m.ends.place in let same : size ≡ q - at = omega arith in rw (← same) spans.behind

    -- the names that begin before the byte behind the label, or before the next
    names_with : (p : ℕ) → at < p → p ≤ next + 1 → names_to line p ≡ names_to line at ++ (name_at line at ∷ [])
    names_with p l h =
        let e : suc at + (p - suc at) ≡ p = omega arith in
        ap (names_to line) (sym e) ∙ no_more_upto line (p - suc at) (suc at) (λ q k l. none_begins q k (omega arith)) ∙ with_more line at (begins_here line at m.starts)

    -- what is known of the byte behind the label
    stray_next : stray_at line next ≡ stray_at (drop at line) size
    stray_next = ap (stray_at line) m.ends.place ∙ stray-beyond line at m.begun.fresh m.begun.even size spans.some

    byte_next : byte_at line next ≡ byte_at (drop at line) size
    byte_next = ap (byte_at line) m.ends.place ∙ sym (get_or-drop at line size 0)

    even_next : quoted_at line next ≡ false
    even_next = ap (quoted_at line) m.ends.place ∙ quotes-beyond line at size m.begun.even ∙ spans.even

    no_long_next : long_at line next ≡ false
    no_long_next =
        ap (long_at line) m.ends.place
        ∙ no_long_beyond line at m.begun.fresh m.begun.even size m.begun.short (no_long_within size (le_refl size))

    last_next : eqb (byte_before line next) 32 ≡ false
    last_next =
        ap (λ (p : ℕ). eqb (byte_before line p) 32) m.ends.place
        ∙ ap (λ (b : ℕ). eqb b 32) (before-beyond line at m.begun.fresh m.begun.even size spans.some) ∙ spans.last

    -- the byte behind the label has no fault, where it is no stray and the line is not open there
    next_clean : stray_at line next ≡ false → open_at line next ≡ false → fault_at most line next ≡ false
    next_clean stray shut =
        let w = next_within in
        let none = none_begins next (omega arith) (le_refl next) in
        fault_none line next most stray no_long_next (no_many line next most none) (no_again line next none) shut

    clean_more : fault_at most line next ≡ false → Clean most line (suc next)
    clean_more e q l = by (dec_lt q next)
      where
        by : Dec (q < next) → fault_at most line q ≡ false
        by (yes before) = clean_next q before
        by (no o) = let s : next ≡ q = omega arith in rw (← s) e

    -- the line ends behind the label
    pub well_ended : next ≡ length line → Ok (record { count = count + 1; table = paste held (16 * count) name 16 }) ≡ roster_of most line
    well_ended end =
        let w = next_within in
        let closed : in_quotes line ≡ false = ap in_quotes (sym (take_all next line (omega arith))) ∙ even_next in
        let last = next_clean (no_stray_end line next (omega arith)) (no_open_after line next (omega arith) last_next closed) in
        let all : names_to line at ++ (name_at line at ∷ []) ≡ names line =
        sym (names_with next (omega arith) (omega arith)) ∙ ap (names_to line) end ∙ sym (names_to_end line) in
        rw (count_next, table_next, all) (roster_good most line (rw (← end) (clean_more last)))

    module _ (more : next < length line) where
      -- a byte behind the label that is no space
      pub stray-behind : (byte_at line next ≡ 32 → ⊥) → FaultyAt most line next
      stray-behind n =
          let left = length-drop at line in
          let e = m.ends.place in
          let stray = stray_next ∙ spans.other (omega arith) (λ space. n (byte_next ∙ space)) in
          faulty_roster most line next (omega arith) (fault-stray line next most stray) clean_next

      -- a space: the next label has to begin behind it
      pub space-behind : byte_at line next ≡ 32 → Begun most line (paste held (16 * count) name 16) (count + 1) (next + 1)
      space-behind space =
          let begun = m.begun in
          let w = next_within in
          let here = next_clean (stray_next ∙ spans.space (sym byte_next ∙ space)) (no_open line next more) in
          let all = names_with (next + 1) (omega arith) (le_refl (next + 1)) in
          record {
            within = omega arith;
            fresh = rw (add-one next, space);
            even = rw (add-one next) (even_more space);
            clean = rw (add-one next) (clean_more here);
            counted = rw all count_next;
            tabled = rw all table_next;
            long = long_next;
            short = short_next;
            few = let d = m.fewer in let f = begun.few in omega arith;
          }
        where
          even_more : byte_at line next ≡ 32 → quoted_at line (suc next) ≡ false
          even_more space = quotes_more line next (get_or line next 0) (drop (suc next) line) (drop-cons line next 0 more) ∙ rw (even_next, space)

          short_next : ShortTo line (next + 1)
          short_next q h e = by (dec_lt q at) (dec_lt at q)
            where
              by : Dec (q < at) → Dec (at < q) → length (name_at line q) ≤ 15
              by (yes before) d = m.begun.short q before e
              by (no o) (yes after) = absurd (true≢false (sym e ∙ none_begins q after (omega arith)))
              by (no o) (no o') = let same : at ≡ q = omega arith in rw (← same) name-short

          long_next : length (paste held (16 * count) name 16) ≡ 512
          long_next =
              let sixteen : length name ≡ 16 = rw is_name_lem (padded-length (name_at line at) name-fits.short) in
              let l = m.begun.long in
              let f = m.begun.few in
              let d = m.fewer in
              let r = m.room in
              length-paste held (16 * count) name 16 (omega arith) (omega arith) ∙ l
