-- Names and numbers of a kept text: each is read up to where it ends, or refused by bytes of which some stand behind the place.
use Prim.Native.Nat.{ℕ, ◌+◌, ◌-◌, ◌≤◌, ◌<◌, max}
use native.Mathlib.Omega.{arith}
use native.Mathlib.Decide.{dec_le, dec_lt}
use mathlib.Core.Path.{◌≡◌, refl, sym, ap, ◌∙◌}
use mathlib.Core.Bool.{Bool, true, false, false≢true, true≢false}
use mathlib.Core.List.{List, [], ◌∷◌}
use lib.ListN.{length, take, drop, length-take, length-drop}
use lib.Seq.{take-take, drop-append_seam}
use Rattle.faults.specs.Faults.{number as fault_number}
use Rattle.faults.specs.declared.Fault.{Fault}
use Rattle.faults.specs.declared.Fault.TheVariants.{LongWord}
use Rattle.labels.specs.Bytes.{is_blank, run, next_is, next_label}
use Rattle.labels.specs.Spelling.{Spells}
use Rattle.labels.specs.Labels.{label_bytes, letters, raw_to, told}
use Rattle.labels.specs.Labels.Told.{faulty}
use Rattle.labels.proofs.Spelled.{no_label_over, whole_exact, spells_first}
use Rattle.labels.proofs.FaultyLabels.{AtFault, told-fault, letter_end, four-again}
use Rattle.labels.proofs.FaultyLabels.AtFault.{long as too_long, stray, empty, unclosed}
use Rattle.labels.proofs.OpenLabels.{fault_open}
use Rattle.labels.proofs.Cut.{whole_letters}
use Rattle.trees.specs.Tree.{Behind}
use Rattle.tokens.specs.Answers.{Answer, and_then}
use Rattle.tokens.specs.Answers.Answer.{parsed, refused}
use Rattle.tokens.specs.Tokens.{number_bytes, blanks, skip, number, number_behind, second_number, numbers_by, numbers, name, inner_name}
use Rattle.tokens.specs.Values.{leading, decimals, too_fine}
use Rattle.tokens.specs.Supports.{refuses_fine, unless_fine, supported}
use Rattle.nodes.specs.Grammar.{Rules, Blanks, Number, ColonNumber, Numbers, Inner}
use Rattle.nodes.specs.Grammar.ColonNumber.{colon}
use Rattle.nodes.specs.Grammar.Numbers.{nothing, distance, both, support}
use Rattle.nodes.specs.Grammar.Inner.{nameless, named}
use Rattle.nodes.proofs.Rests.{Moves, stays, moves_on, moves-length, skip-moves, skip-tail, number_advances, name-moves}
use Rattle.nodes.proofs.Spans.{number-long, name-faulty}
use Rattle.nodes.proofs.Exact.{Stopped, Follows, stopped-label, stopped-skip-label, follows_no_colon, colon-stopped, label_no_blank, label_no_byte, blanks-skip, skip_to, skip_is}
use Rattle.nodes.proofs.Exact.{number_first, number-gives, name-gives}
use Rattle.nodes.proofs.Locality.{deciding_by, deciding, deciding_some}
use Rattle.meanings.specs.Meaning.{part_before, kept_to}
use Rattle.meanings.proofs.KeptRules.{number-splits, number_size}
use Rattle.meanings.proofs.NumberSpans.{number-length, number_span}

-- ---- answers to a text of which m bytes stand behind the place

-- a refusal by n at place q, where reading of s began at place p: of the bytes that decide it, from the one at fault on, some stand behind the place
pub record Late (m : ℕ) (s : List ℕ) (p n q : ℕ) : Type 0 where
  pub from : List ℕ
  pub moved : Moves s p from q
  pub beyond : length from < m + deciding n from

-- rest is left, and P holds of what was read; or the refusal is late
pub data Passes {A : Type 0} (m : ℕ) (s : List ℕ) (p : ℕ) (P : A → Type 0) (rest : List ℕ) : Answer A → Type 0 where
  reads : {x : A} {q : ℕ} → Moves s p rest q → P x → Passes m s p P rest (parsed x rest q)
  halts : {n q : ℕ} → Late m s p n q → Passes m s p P rest (refused n q)

-- the same from an earlier place on
pub passes_from :
    {A : Type 0} {m : ℕ} {s t rest : List ℕ} {p r : ℕ} {P : A → Type 0} {a : Answer A} → Moves s p t r → Passes m t r P rest a → Passes m s p P rest a
passes_from on (reads moved holds) = reads (moves_on on moved) holds
passes_from on (halts l) = halts (record { from = l.from; moved = moves_on on l.moved; beyond = l.beyond })

-- one piece behind another
pub passes_then :
    {A B : Type 0} {m : ℕ} {s mid rest : List ℕ} {p : ℕ} {P : A → Type 0} {Q : B → Type 0} {a : Answer A} (f : A → List ℕ → ℕ → Answer B)
    → Passes m s p P mid a → ((x : A) (q : ℕ) → Moves s p mid q → P x → Passes m s p Q rest (f x mid q)) → Passes m s p Q rest (and_then a f)
passes_then f (reads {x = x} {q = q} moved holds) next = next x q moved holds
passes_then f (halts l) next = halts l

-- less may be said of what was read
pub passes_as :
    {A : Type 0} {m : ℕ} {s rest : List ℕ} {p : ℕ} {P Q : A → Type 0} {a : Answer A}
    → ((x : A) (q : ℕ) → Moves s p rest q → P x → Q x) → Passes m s p P rest a → Passes m s p Q rest a
passes_as less (reads {x = x} {q = q} moved holds) = reads moved (less x q moved holds)
passes_as less (halts l) = halts l

-- exactly w was read
abbrev pub Only : {A : Type 0} → A → A → Type 0
Only w x = x ≡ w

-- behind a piece that is read as w, if it is read
pub passes_on :
    {A B : Type 0} {m : ℕ} {s mid rest : List ℕ} {p : ℕ} {w : A} {Q : B → Type 0} {a : Answer A} (f : A → List ℕ → ℕ → Answer B)
    → Passes m s p (Only w) mid a → ((q : ℕ) → Passes m mid q Q rest (f w mid q)) → Passes m s p Q rest (and_then a f)
passes_on {mid = mid} f first next = passes_then f first (λ x q moved is. passes_from moved (rw is (next q)))

-- blanks and a byte
pub byte-moves : (b : ℕ) → is_blank b ≡ false → {s rest : List ℕ} → Blanks s (b ∷ rest) → (p : ℕ) → Moves s p rest (p + blanks s + 1)
byte-moves b solid {s} bl p = rw (skip_to b solid bl) at (skip-tail b s p (skip_is b solid bl)).moves

-- ---- numbers

module _ (m : ℕ) where
  -- the thirteenth byte of a number, of which at most twelve stand before the place
  number-late :
      {w s rest : List ℕ} → Number w s rest → length (part_before m s rest) ≤ number_bytes → number_bytes < length w → (p : ℕ) → Late m s p 4 (p + number_bytes)
  number-late {w} {s} {rest} n short long p =
      let size = number_size n in
      let part = simp length-take at short in
      let t = drop number_bytes s in
      record {
        from = t;
        moved = record { count = number_bytes; fits = omega arith; left = refl; place = refl };
        beyond = omega (arith, deciding_some 4 t refl refl, length-drop number_bytes s);
      }

  number-passes :
      {w s rest : List ℕ} → Number w s rest → Stopped rest → length (part_before m s rest) ≤ number_bytes → (p : ℕ) → Passes m s p (Only w) rest (number s p)
  number-passes {w} {s} {rest} n stop short p = by (dec_le (length w) number_bytes)
    where
      by : Dec (length w ≤ number_bytes) → Passes m s p (Only w) rest (number s p)
      by (yes fits) = let g = number-gives n stop fits p in rw g.is (reads (number_advances s p g.is).moves refl)
      by (no over) = rw (number-long s p (omega (arith, number_span n stop))) (halts (number-late n short (omega arith) p))

  number_behind-passes :
      {w s mid rest : List ℕ} → Blanks s mid → Number w mid rest → Stopped rest → length (part_before m mid rest) ≤ number_bytes → (p : ℕ)
      → Passes m s p (Only w) rest (number_behind s p)
  unfolding number_behind
  number_behind-passes {s = s} {mid = mid} gap n stop short p =
      let e : skip s ≡ mid = blanks-skip gap (label_no_blank mid (number_first n)) in
      rw e (passes_from (rw e at (skip-moves s p)) (number-passes n stop short (p + blanks s)))

-- ---- what stands behind a node

number-moves : {w s rest : List ℕ} → Number w s rest → (p : ℕ) → Moves s p rest (p + length w)
number-moves {w} {s} {rest} n p =
    record {
      count = length w;
      fits = omega (arith, number_size n);
      left = sym (ap (λ (l : List ℕ). drop (length w) l) (number-splits n) ∙ drop-append_seam w rest);
      place = refl;
    }

-- a number that is taken, and where it begins in s, which begins at place p
record Standing (Takes : List ℕ → List ℕ → List ℕ → Type 0) (w s : List ℕ) (p : ℕ) (rest : List ℕ) : Type 0 where
  from : List ℕ
  place : ℕ
  moved : Moves s p from place
  number : Number w from rest
  taken : Takes w from rest

standing_from :
    {Takes : List ℕ → List ℕ → List ℕ → Type 0} {w s t rest : List ℕ} {p r : ℕ} → Moves s p t r → Standing Takes w t r rest → Standing Takes w s p rest
standing_from on at = record { from = at.from; place = at.place; moved = moves_on on at.moved; number = at.number; taken = at.taken }

colon-stands : {Takes : List ℕ → List ℕ → List ℕ → Type 0} {w s rest : List ℕ} → ColonNumber Takes w s rest → (p : ℕ) → Standing Takes w s p rest
colon-stands {s = s} (colon {s₁ = s₁} {s₂ = s₂} bl gap n taken) p =
    let q = p + blanks s + 1 in
    let e : skip s₁ ≡ s₂ = blanks-skip gap (label_no_blank s₂ (number_first n)) in
    record { from = s₂; place = q + blanks s₁; moved = moves_on (byte-moves 58 refl bl p) (rw e at (skip-moves s₁ q)); number = n; taken = taken }

-- a support that is refused is written, and stands behind all else
support-stands :
    (given : Bool) (R : Rules) {d b s rest : List ℕ} → Numbers R d b s rest → refuses_fine given b ≡ true → (p : ℕ) → Standing R.support b s p rest
unfolding too_fine decimals leading run
support-stands false R n fine p = absurd (false≢true fine)
support-stands true R nothing fine p = absurd (false≢true fine)
support-stands true R (distance c) fine p = absurd (false≢true fine)
support-stands true R (both {d = d} c e) fine p =
    let first = colon-stands c p in
    let q = first.place + length d in
    standing_from (moves_on first.moved (number-moves first.number first.place)) (colon-stands e q)
support-stands true R (support {s = s} bl c) fine p = standing_from (byte-moves 58 refl bl p) (colon-stands c (p + blanks s + 1))

module _ (given : Bool) (names : List (List ℕ)) (m : ℕ) where
  abbrev BehindIs : List ℕ → List ℕ → List ℕ → Behind → Type 0
  BehindIs w d b x = Only (record { name = w; distance = d; support = b }) x

  -- the last number
  final-passes :
      {b s mid rest : List ℕ} (f : List ℕ → Behind) → Blanks s mid → Number b mid rest → Follows rest → length (part_before m mid rest) ≤ number_bytes → (p : ℕ)
      → Passes m s p (Only (f b)) rest (and_then (number_behind s p) (λ b s p. parsed (f b) s p))
  final-passes {rest = rest} f gap n follows short p =
      passes_on (λ b s p. parsed (f b) s p) (number_behind-passes m gap n follows.stopped short p) (λ q. reads (stays rest q) refl)

  second-passes :
      (w d : List ℕ) {b s rest : List ℕ} → ColonNumber (kept_to given names m).support b s rest → Follows rest → (p : ℕ)
      → Passes m s p (BehindIs w d b) rest (second_number (next_is 58 (skip s)) w d s p)
  second-passes w d {s = s} (colon bl gap n short) follows p =
      rw (skip_is 58 refl bl, skip_to 58 refl bl)
      (passes_from (byte-moves 58 refl bl p) (final-passes (λ b. record { name = w; distance = d; support = b }) gap n follows short.0 (p + blanks s + 1)))

  first_passes :
      (w : List ℕ) {d s mid rest : List ℕ} {Q : Behind → Type 0}
      → ColonNumber (kept_to given names m).distance d s mid → Stopped mid
      → ((q : ℕ) → Passes m mid q Q rest (second_number (next_is 58 (skip mid)) w d mid q)) → (p : ℕ)
      → Passes m s p Q rest (numbers_by (next_is 58 (skip s)) w s p)
  first_passes w {s = s} (colon {s₁ = s₁} {s₂ = s₂} bl gap n short) stop second p =
      let e : skip s₁ ≡ s₂ = blanks-skip gap (label_no_blank s₂ (number_first n)) in
      rw (skip_is 58 refl bl, skip_to 58 refl bl, e, label_no_byte 58 s₂ refl (number_first n))
      (passes_from (byte-moves 58 refl bl p)
      (passes_on (λ d s p. second_number (next_is 58 (skip s)) w d s p) (number_behind-passes m gap n stop short (p + blanks s + 1)) second))

  support-passes :
      (w : List ℕ) {b s mid rest : List ℕ} → Blanks s (58 ∷ mid) → ColonNumber (kept_to given names m).support b mid rest → Follows rest → (p : ℕ)
      → Passes m s p (BehindIs w [] b) rest (numbers_by (next_is 58 (skip s)) w s p)
  support-passes w {s = s} {mid = mid} bl (colon bl₁ gap n short) follows p =
      let q = p + blanks s + 1 in
      rw (skip_is 58 refl bl, skip_to 58 refl bl, skip_is 58 refl bl₁, skip_to 58 refl bl₁)
      (passes_from (moves_on (byte-moves 58 refl bl p) (byte-moves 58 refl bl₁ q))
      (final-passes (λ b. record { name = w; distance = []; support = b }) gap n follows short.0 (q + blanks mid + 1)))

  numbers-passes :
      (w : List ℕ) {d b s rest : List ℕ} → Numbers (kept_to given names m) d b s rest → Follows rest → (p : ℕ)
      → Passes m s p (BehindIs w d b) rest (numbers w s p)
  unfolding numbers
  numbers-passes w {rest = rest} nothing follows p = rw (follows_no_colon follows) (reads (stays rest p) refl)
  numbers-passes w {rest = rest} (distance c) follows p =
      first_passes w c follows.stopped (λ q. rw (follows_no_colon follows) (reads (stays rest q) refl)) p
  numbers-passes w (both {d = d} c e) follows p = first_passes w c (colon-stopped e) (λ q. second-passes w d e follows q) p
  numbers-passes w (support bl c) follows p = support-passes w bl c follows p

  -- a support that is refused, and has not ended before the place
  fine-late :
      {d b s rest : List ℕ} → Numbers (kept_to given names m) d b s rest → Stopped rest → refuses_fine given b ≡ true → {p q : ℕ} → Moves s p rest q
      → Late m s p 18 (q - length b)
  fine-late {b = b} {s} {rest} n stop fine {p} {q} on = by (support-stands given (kept_to given names m) n fine p)
    where
      by : Standing (kept_to given names m).support b s p rest → Late m s p 18 (q - length b)
      by at =
          let size = number_size at.number in
          let begun : q - length b ≡ at.place = omega (arith, moves-length on, moves-length at.moved) in
          let open-there : m ≤ length rest → ⊥ = λ l. true≢false (sym fine ∙ at.taken.1 l) in
          record { from = at.from; moved = rw begun at.moved; beyond = omega (arith, number-length at.number stop, open-there) }

  -- what stands behind a node is read, with its support judged, or refused late
  pub supported-passes :
      (w : List ℕ) {d b s rest : List ℕ} → Numbers (kept_to given names m) d b s rest → Follows rest → (p : ℕ)
      → Passes m s p (BehindIs w d b) rest (supported given w s p)
  unfolding supported
  supported-passes w {d} {b} {s} {rest} n follows p =
      passes_then (λ b s p. unless_fine (refuses_fine given b.support) b s p) (numbers-passes w n follows p)
      (λ x q on is. rw is (by (refuses_fine given b) refl q on))
    where
      by : (t : Bool) → refuses_fine given b ≡ t → (q : ℕ) → Moves s p rest q
          → Passes m s p (BehindIs w d b) rest (unless_fine t (record { name = w; distance = d; support = b }) rest q)
      by true fine q on = halts (fine-late n follows.stopped fine on)
      by false plain q on = reads on refl

-- ---- names

-- what was read is w, and it keeps its limit
abbrev pub Within : List ℕ → List ℕ → Type 0
Within w x = (x ≡ w) × (length w ≤ label_bytes)

four-long : {s : List ℕ} {fault : Fault} {f : ℕ} → AtFault s fault f → fault_number fault ≡ 4 → label_bytes < length (letters s)
four-long (too_long l) is = l
four-long (stray w b rest split all short non) is = absurd (omega arith)
four-long (empty rest split over) is = absurd (omega arith)
four-long (unclosed w split all short) is = absurd (omega arith)

-- a letter that begins at f takes the bytes that decide a refusal by 4 there
letter_decides : (s : List ℕ) (f : ℕ) → letter_end (next_is 39 (drop f s)) f ≡ f + deciding 4 (drop f s)
letter_decides s f = by (next_is 39 (drop f s))
  where
    by : (q : Bool) → letter_end q f ≡ f + deciding_by false false q (drop f s)
    by true = omega arith
    by false = omega arith

-- the first j bytes of a label that has a sixteenth letter at f do not have all of that letter, where they have fifteen letters at most
cut-before : (s : List ℕ) (f j : ℕ) → told s ≡ faulty LongWord f → length (letters (take j s)) ≤ label_bytes → j < letter_end (next_is 39 (drop f s)) f
cut-before s f j e short = by (dec_lt j (letter_end (next_is 39 (drop f s)) f))
  where
    by : Dec (j < letter_end (next_is 39 (drop f s)) f) → j < letter_end (next_is 39 (drop f s)) f
    by (yes l) = l
    by (no l) =
        let n = letter_end (next_is 39 (drop f s)) f in
        absurd (omega (arith, four-long (told-fault (take j s) LongWord f (four-again s (take j s) f e (take-take n j s (omega arith)))) refl))

module _ (m : ℕ) where
  -- the sixteenth letter of a label, of which at most fifteen stand before the place
  name-late :
      {w s rest : List ℕ} → Spells w s rest → length (letters (part_before m s rest)) ≤ label_bytes → label_bytes < length w → (f : ℕ) → told s ≡ faulty LongWord f
      → (p : ℕ) → Late m s p 4 (p + f)
  name-late {w} {s} {rest} r short long f e p =
      let t = drop f s in
      let fits = (fault_open (told-fault s LongWord f e)).within in
      let cut = cut-before s f (length s - max m (length rest)) e short in
      record {
        from = t;
        moved = record { count = f; fits = fits; left = refl; place = refl };
        beyond = by (dec_le m (length rest)) cut;
      }
    where
      by :
          Dec (m ≤ length rest) → length s - max m (length rest) < letter_end (next_is 39 (drop f s)) f
          → length (drop f s) < m + deciding 4 (drop f s)
      by (yes l) cut =
          let all : length s - max m (length rest) ≡ length s - length rest = omega arith in
          let name : length (letters (part_before m s rest)) ≡ length w = ap (λ (n : ℕ). length (letters (take n s))) all ∙ ap length (whole_letters r) in
          absurd (omega arith)
      by (no l) cut = omega (arith, letter_decides s f, length-drop f s)

  -- a label is read up to where it ends, or refused late
  pub name-passes :
      {w s rest : List ℕ} → Spells w s rest → next_label rest ≡ false → length (letters (part_before m s rest)) ≤ label_bytes → (p : ℕ)
      → Passes m s p (Within w) rest (name s p)
  name-passes {w} {s} {rest} r stops short p = by (dec_le (length w) label_bytes)
    where
      by : Dec (length w ≤ label_bytes) → Passes m s p (Within w) rest (name s p)
      by (yes fits) = let g = name-gives r stops fits p in rw g.is (reads (name-moves s p g.is) (refl, fits))
      by (no over) =
          let f = raw_to label_bytes s in
          let e = (whole_exact (record { spelled = r; over = no_label_over s rest stops })).long (omega arith) in
          rw (name-faulty s p LongWord f e) (halts (name-late r short (omega arith) f e p))

  -- and so is the optional name behind a parenthesis
  pub inner_name-passes :
      (given : Bool) (names : List (List ℕ)) {w s rest : List ℕ} → Inner (kept_to given names m) w s rest → Stopped rest → (p : ℕ)
      → Passes m s p (Only w) rest (inner_name s p)
  unfolding inner_name
  inner_name-passes given names {rest = rest} nameless stop p = rw (stopped-skip-label stop) (reads (stays rest p) refl)
  inner_name-passes given names {s = s} (named {mid = mid} gap r short) stop p =
      let e : skip s ≡ mid = blanks-skip gap (label_no_blank mid (spells_first r)) in
      let is : next_label (skip s) ≡ true = rw e (spells_first r) in
      rw (is, e) (passes_from (rw e at (skip-moves s p)) (passes_as (λ x q moved h. h.0) (name-passes r (stopped-label stop) short (p + blanks s))))
