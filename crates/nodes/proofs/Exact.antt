-- Tokens of the grammar end where the reader's runs end, when what follows them stops a run.
use Prim.Native.Nat.{ℕ, zero, suc, ◌+◌, ◌≤◌, ◌<◌}
use mathlib.Core.Path.{◌≡◌, refl, sym, ap, ◌∙◌}
use mathlib.Core.Bool.{Bool, true, false, ◌||◌}
use mathlib.Core.List.{List, [], ◌∷◌, ◌++◌, tail, append_assoc}
use native.Mathlib.Omega.{arith}
use lib.ListN.{length, drop, length-append}
use lib.Seq.{take-append_seam, drop-append_seam}
use lib.Dec.{eqb}
use borrow.Author.Tests.{eqb-true, eq-eqb, le-leb}
use Rattle.labels.specs.Bytes.{is_digit, is_blank, is_label, run, next_is, next_label}
use Rattle.labels.specs.Spelling.{Run, Spells}
use Rattle.labels.specs.Spelling.Run.{one, next}
use Rattle.labels.specs.Labels.{label_bytes}
use Rattle.labels.proofs.RunRules.{run_some, run-splits, run-exact}
use Rattle.labels.proofs.Spelled.{no_label_over, whole_exact, spells_first}
use Rattle.trees.specs.Tree.{Behind}
use Rattle.tokens.specs.Answers.{Answer, and_then}
use Rattle.tokens.specs.Answers.Answer.{parsed}
use Rattle.tokens.specs.Tokens.{number_bytes, blanks, skip, numeral, pointed, digits, number, number_behind, second_number, numbers_by, numbers, name, inner_name}
use Rattle.tokens.specs.Values.{leading, decimals, too_fine}
use Rattle.tokens.specs.Supports.{refuses_fine, unless_fine, supported}
use Rattle.nodes.specs.Grammar.{Rules, strict, Blanks, Number, ColonNumber, Numbers, Inner}
use Rattle.nodes.specs.Grammar.Blanks.{none, blank}
use Rattle.nodes.specs.Grammar.Number.{whole, decimal}
use Rattle.nodes.specs.Grammar.ColonNumber.{colon}
use Rattle.nodes.specs.Grammar.Numbers.{nothing, distance, both, support}
use Rattle.nodes.specs.Grammar.Inner.{nameless, named}
use Rattle.nodes.proofs.Rests.{tail-drop}

-- the answer is x, with rest left
pub record Gives {A : Type 0} (answer : Answer A) (x : A) (rest : List ℕ) : Type 0 where
  pub place : ℕ
  pub is : answer ≡ parsed x rest place

pub gives : {A : Type 0} (x : A) (rest : List ℕ) (p : ℕ) → Gives (parsed x rest p) x rest
gives x rest p = record { place = p; is = refl }

-- a piece gives y, and from there the next gives x
pub gives_then :
    {A B : Type 0} (a : Answer A) (f : A → List ℕ → ℕ → Answer B) {y : A} {m : List ℕ} {x : B} {rest : List ℕ}
    → Gives a y m → ((p : ℕ) → Gives (f y m p) x rest) → Gives (and_then a f) x rest
gives_then a f {y} {m} {x} {rest} g h = rw g.is (h g.place)

-- the same thing read, and the same left
pub record Same {A : Type 0} (x y : A) (rest rest' : List ℕ) : Type 0 where
  pub value : x ≡ y
  pub left : rest ≡ rest'

-- an answer gives one thing
pub gives_one : {A : Type 0} (a : Answer A) {x y : A} {rest rest' : List ℕ} → Gives a x rest → Gives a y rest' → Same x y rest rest'
gives_one a g h = record { value = cc; left = cc }

-- ---- bytes by kind

falsehood : {A : Type 0} → true ≡ false → A
falsehood e = absurd (let z : ◌≡◌ {A = ℕ} 0 1 = cc in omega arith)

not-true : (t : Bool) → (t ≡ true → ⊥) → t ≡ false
not-true true f = absurd (f refl)
not-true false f = refl

-- what holds of the four blanks holds of every blank
pub blank_all : (P : ℕ → Type 0) → P 32 → P 9 → P 10 → P 13 → (c : ℕ) → is_blank c ≡ true → P c
blank_all P a b d e c is = first (eqb c 32) refl is
  where
    fourth : (t : Bool) → eqb c 13 ≡ t → t ≡ true → P c
    fourth true h is = rw (eqb-true c 13 h) e
    fourth false h is = falsehood (sym is)

    third : (t : Bool) → eqb c 10 ≡ t → (t || eqb c 13) ≡ true → P c
    third true h is = rw (eqb-true c 10 h) d
    third false h is = fourth (eqb c 13) refl is

    second : (t : Bool) → eqb c 9 ≡ t → (t || eqb c 10 || eqb c 13) ≡ true → P c
    second true h is = rw (eqb-true c 9 h) b
    second false h is = third (eqb c 10) refl is

    first : (t : Bool) → eqb c 32 ≡ t → (t || eqb c 9 || eqb c 10 || eqb c 13) ≡ true → P c
    first true h is = rw (eqb-true c 32 h) a
    first false h is = second (eqb c 9) refl is

pub digit-label : (c : ℕ) → is_digit c ≡ true → is_label c ≡ true
digit-label c is = rw is

pub label-solid : (c : ℕ) → is_label c ≡ true → is_blank c ≡ false
label-solid c is = not-true (is_blank c) (λ h. falsehood (sym is ∙ blank_all (λ (x : ℕ). is_label x ≡ false) refl refl refl refl c h))

-- a byte with which a label begins is no byte with which none does
pub label_other : (b c : ℕ) → is_label b ≡ false → is_label c ≡ true → eqb c b ≡ false
label_other b c non is = not-true (eqb c b) (λ h. falsehood (sym is ∙ (ap is_label (eqb-true c b h) ∙ non)))

no_digit : (c : ℕ) → is_label c ≡ false → is_digit c ≡ false
no_digit c non = not-true (is_digit c) (λ h. falsehood (sym (digit-label c h) ∙ non))

-- ---- what stops a run

-- a byte that stands behind a node, its name or its number, blanks before it
pub record Stop (b : ℕ) : Type 0 where
  pub solid : is_blank b ≡ false
  pub no_label : is_label b ≡ false
  pub no_point : eqb b 46 ≡ false

pub record Stopped (s : List ℕ) : Type 0 where
  pub byte : ℕ
  pub behind : List ℕ
  pub gap : Blanks s (byte ∷ behind)
  pub stop : Stop byte

-- a node in a text is followed by blanks and `,`, `)` or `;`: a byte that stops, and no colon
pub record Follows (s : List ℕ) : Type 0 where
  pub stopped : Stopped s
  pub no_colon : eqb stopped.byte 58 ≡ false

pub comma_follows : {s m : List ℕ} → Blanks s (44 ∷ m) → Follows s
comma_follows {s} {m} h =
    record { stopped = record { byte = 44; behind = m; gap = h; stop = record { solid = refl; no_label = refl; no_point = refl } }; no_colon = refl }

pub closing_follows : {s m : List ℕ} → Blanks s (41 ∷ m) → Follows s
closing_follows {s} {m} h =
    record { stopped = record { byte = 41; behind = m; gap = h; stop = record { solid = refl; no_label = refl; no_point = refl } }; no_colon = refl }

pub semicolon_follows : {s m : List ℕ} → Blanks s (59 ∷ m) → Follows s
semicolon_follows {s} {m} h =
    record { stopped = record { byte = 59; behind = m; gap = h; stop = record { solid = refl; no_label = refl; no_point = refl } }; no_colon = refl }

pub colon-stops : {s m : List ℕ} → Blanks s (58 ∷ m) → Stopped s
colon-stops {s} {m} h = record { byte = 58; behind = m; gap = h; stop = record { solid = refl; no_label = refl; no_point = refl } }

-- ---- blanks and runs of the grammar are those of the reader

pub solid-run : (test : ℕ → Bool) (b : ℕ) (s : List ℕ) → test b ≡ false → run test (b ∷ s) ≡ 0
unfolding run
solid-run test b s non = rw non

-- blanks up to where no blank stands
pub blanks-skip : {s m : List ℕ} → Blanks s m → run is_blank m ≡ 0 → skip s ≡ m
unfolding skip run
blanks-skip {s} none e = rw e
blanks-skip (blank is d) e = rw is (blanks-skip d e)

pub skip_to : {s m : List ℕ} (b : ℕ) → is_blank b ≡ false → Blanks s (b ∷ m) → skip s ≡ b ∷ m
skip_to {s} {m} b solid h = blanks-skip h (solid-run is_blank b m solid)

-- what stands first is a blank or the byte behind them
first_of : (P : List ℕ → Type 0) {s m : List ℕ} → ((c : ℕ) (l : List ℕ) → is_blank c ≡ true → P (c ∷ l)) → Blanks s m → P m → P s
first_of P each none h = h
first_of P each (blank {b = b} {s = s} is d) h = each b s is

pub stopped-label : {s : List ℕ} → Stopped s → next_label s ≡ false
unfolding next_label
stopped-label {s} h =
    first_of (λ (l : List ℕ). next_label l ≡ false) (λ c l is. blank_all (λ (x : ℕ). is_label x ≡ false) refl refl refl refl c is) h.gap
    h.stop.no_label

pub stopped-point : {s : List ℕ} → Stopped s → next_is 46 s ≡ false
unfolding next_is
stopped-point {s} h =
    first_of (λ (l : List ℕ). next_is 46 l ≡ false) (λ c l is. blank_all (λ (x : ℕ). eqb x 46 ≡ false) refl refl refl refl c is) h.gap
    h.stop.no_point

pub no_digit_run : (s : List ℕ) → next_label s ≡ false → run is_digit s ≡ 0
unfolding next_label run
no_digit_run [] non = refl
no_digit_run (b ∷ s) non = rw (no_digit b non)

-- a digit is a byte with which a label may begin
digits-label : {w s rest : List ℕ} → Run is_digit w s rest → next_label s ≡ true
unfolding next_label
digits-label (one {b = b} is) = digit-label b is
digits-label (next {b = b} is h) = digit-label b is

pub label_no_blank : (s : List ℕ) → next_label s ≡ true → run is_blank s ≡ 0
unfolding next_label run
label_no_blank [] is = refl
label_no_blank (b ∷ s) is = rw (label-solid b is)

pub label_no_byte : (b : ℕ) (s : List ℕ) → is_label b ≡ false → next_label s ≡ true → next_is b s ≡ false
unfolding next_label next_is
label_no_byte b [] non is = refl
label_no_byte b (c ∷ s) non is = label_other b c non is

pub next_is_lem : (b : ℕ) (s : List ℕ) → next_is b (b ∷ s) ≡ true
unfolding next_is
next_is_lem b s = eq-eqb b b refl

pub next_not : (b c : ℕ) (s : List ℕ) → eqb c b ≡ false → next_is b (c ∷ s) ≡ false
unfolding next_is
next_not b c s non = non

pub stopped-skip : {s : List ℕ} (h : Stopped s) → skip s ≡ h.byte ∷ h.behind
stopped-skip h = skip_to h.byte h.stop.solid h.gap

pub stopped-skip-label : {s : List ℕ} → Stopped s → next_label (skip s) ≡ false
unfolding next_label
stopped-skip-label h = rw (stopped-skip h) h.stop.no_label

pub follows_no_colon : {s : List ℕ} → Follows s → next_is 58 (skip s) ≡ false
follows_no_colon h = rw (stopped-skip h.stopped) (next_not 58 h.stopped.byte h.stopped.behind h.no_colon)

-- blanks and this byte
pub skip_is : {s m : List ℕ} (b : ℕ) → is_blank b ≡ false → Blanks s (b ∷ m) → next_is b (skip s) ≡ true
skip_is {s} {m} b solid h = rw (skip_to b solid h) (next_is_lem b m)

-- ---- numbers

pub number_first : {w s rest : List ℕ} → Number w s rest → next_label s ≡ true
number_first (whole r) = digits-label r
number_first (decimal r u) = digits-label r

numeral-gives :
    (c : ℕ) (s : List ℕ) (p : ℕ) (x rest : List ℕ) → s ≡ x ++ rest → c ≡ length x → length x ≤ number_bytes → Gives (numeral c s p) x rest
numeral-gives c s p x rest split is short =
    rw (is, split, le-leb (length x) number_bytes short, take-append_seam x rest, drop-append_seam x rest) (gives x rest (p + length x))

digits_whole :
    (d : ℕ) (s : List ℕ) (p : ℕ) (x rest : List ℕ)
    → s ≡ x ++ rest → d ≡ length x → 0 < length x → next_is 46 rest ≡ false → length x ≤ number_bytes → Gives (digits d s p) x rest
digits_whole zero s p x rest split is some stops short = absurd (omega arith)
digits_whole (suc d) s p x rest split is some stops short =
    let e : drop (suc d) s ≡ rest = rw (is, split) (drop-append_seam x rest) in
    rw (e, stops) (numeral-gives (suc d) s p x rest split is short)

pointed-gives :
    (d e : ℕ) (s : List ℕ) (p : ℕ) (x rest : List ℕ)
    → 0 < e → s ≡ x ++ rest → d + 1 + e ≡ length x → length x ≤ number_bytes → Gives (pointed d e s p) x rest
pointed-gives d zero s p x rest some split is short = absurd (omega arith)
pointed-gives d (suc e) s p x rest some split is short = numeral-gives (d + 1 + suc e) s p x rest split is short

digits_decimal :
    (d : ℕ) (s : List ℕ) (p : ℕ) (v w mid rest : List ℕ)
    → s ≡ v ++ 46 ∷ mid → d ≡ length v → 0 < length v → mid ≡ w ++ rest → run is_digit mid ≡ length w → 0 < length w
    → length (v ++ 46 ∷ w) ≤ number_bytes → Gives (digits d s p) (v ++ 46 ∷ w) rest
digits_decimal zero s p v w mid rest split is some apart e more short = absurd (omega arith)
digits_decimal (suc d) s p v w mid rest split is some apart e more short =
    let point : drop (suc d) s ≡ 46 ∷ mid = rw (is, split) (drop-append_seam v (46 ∷ mid)) in
    let behind : drop (suc d + 1) s ≡ mid = sym (tail-drop (suc d) s) ∙ ap tail point in
    let all : s ≡ (v ++ 46 ∷ w) ++ rest = split ∙ (ap (λ (l : List ℕ). v ++ 46 ∷ l) apart ∙ sym (append_assoc v (46 ∷ w) rest)) in
    let size : suc d + 1 + length w ≡ length (v ++ 46 ∷ w) = simp length-append (omega arith) in
    rw (point, next_is_lem 46 mid, behind, e) (pointed-gives (suc d) (length w) s p (v ++ 46 ∷ w) rest more all size short)

point_no_digit : (mid : List ℕ) → run is_digit (46 ∷ mid) ≡ 0
point_no_digit mid = solid-run is_digit 46 mid refl

pub number-gives :
    {w s rest : List ℕ} → Number w s rest → Stopped rest → length w ≤ number_bytes → (p : ℕ) → Gives (number s p) w rest
unfolding number
number-gives {s = s} {rest = rest} (whole {w = w} r) stop short p =
    digits_whole (run is_digit s) s p w rest (run-splits r) (run-exact r (no_digit_run rest (stopped-label stop))) (run_some r) (stopped-point stop) short
number-gives {s = s} {rest = rest} (decimal {v = v} {w = w} {mid = mid} r u) stop short p =
    digits_decimal (run is_digit s) s p v w mid rest (run-splits r) (run-exact r (point_no_digit mid)) (run_some r) (run-splits u)
    (run-exact u (no_digit_run rest (stopped-label stop))) (run_some u) short

pub number_behind-gives :
    {w s m rest : List ℕ} → Blanks s m → Number w m rest → Stopped rest → length w ≤ number_bytes → (p : ℕ) → Gives (number_behind s p) w rest
unfolding number_behind
number_behind-gives {s = s} {m = m} gap n stop short p =
    rw (blanks-skip gap (label_no_blank m (number_first n))) (number-gives n stop short (p + blanks s))

-- a number written behind w, and what stands behind it
second-gives :
    (given : Bool) (names : List (List ℕ)) (w d : List ℕ) {b s rest : List ℕ} → ColonNumber (strict given names).support b s rest → Follows rest → (p : ℕ)
    → Gives (second_number (next_is 58 (skip s)) w d s p) (record { name = w; distance = d; support = b }) rest
second-gives given names w d {b} {s} {rest} (colon {s₁ = s₁} bl gap n short) follows p =
    rw (skip_is 58 refl bl, skip_to 58 refl bl)
    (gives_then (number_behind s₁ (p + blanks s + 1)) (λ b s p. parsed (record { name = w; distance = d; support = b }) s p)
    (number_behind-gives gap n follows.stopped short.0 (p + blanks s + 1))
    (λ q. gives (record { name = w; distance = d; support = b }) rest q))

pub colon-stopped : {Takes : List ℕ → List ℕ → List ℕ → Type 0} {w s rest : List ℕ} → ColonNumber Takes w s rest → Stopped s
colon-stopped (colon bl gap n short) = colon-stops bl

-- the number behind a first colon is no second colon
first_gives :
    (given : Bool) (names : List (List ℕ)) (w : List ℕ) {d s mid : List ℕ} (x : Behind) (rest : List ℕ)
    → ColonNumber (strict given names).distance d s mid → Stopped mid → ((q : ℕ) → Gives (second_number (next_is 58 (skip mid)) w d mid q) x rest) → (p : ℕ)
    → Gives (numbers_by (next_is 58 (skip s)) w s p) x rest
first_gives given names w {d} {s} {mid} x rest (colon {s₁ = s₁} {s₂ = s₂} bl gap n short) stop more p =
    let e : skip s₁ ≡ s₂ = blanks-skip gap (label_no_blank s₂ (number_first n)) in
    rw (skip_is 58 refl bl, skip_to 58 refl bl, e, label_no_byte 58 s₂ refl (number_first n))
    (gives_then (number_behind s₁ (p + blanks s + 1)) (λ d s p. second_number (next_is 58 (skip s)) w d s p)
    (number_behind-gives gap n stop short (p + blanks s + 1)) more)

support-gives :
    (given : Bool) (names : List (List ℕ)) (w : List ℕ) {b s mid rest : List ℕ}
    → Blanks s (58 ∷ mid) → ColonNumber (strict given names).support b mid rest → Follows rest → (p : ℕ)
    → Gives (numbers_by (next_is 58 (skip s)) w s p) (record { name = w; distance = []; support = b }) rest
support-gives given names w {b} {s} {mid} {rest} bl (colon {s₁ = s₁} bl₁ gap n short) follows p =
    let q = p + blanks s + 1 in
    rw (skip_is 58 refl bl, skip_to 58 refl bl, skip_is 58 refl bl₁, skip_to 58 refl bl₁)
    (gives_then (number_behind s₁ (q + blanks mid + 1)) (λ b s p. parsed (record { name = w; distance = []; support = b }) s p)
    (number_behind-gives gap n follows.stopped short.0 (q + blanks mid + 1))
    (λ r. gives (record { name = w; distance = []; support = b }) rest r))

pub numbers-gives :
    (given : Bool) (names : List (List ℕ)) (w : List ℕ) {d b s rest : List ℕ} → Numbers (strict given names) d b s rest → Follows rest → (p : ℕ)
    → Gives (numbers w s p) (record { name = w; distance = d; support = b }) rest
unfolding numbers
numbers-gives given names w {rest = rest} nothing follows p =
    rw (follows_no_colon follows) (gives (record { name = w; distance = []; support = [] }) rest p)
numbers-gives given names w {rest = rest} (distance {d = d} c) follows p =
    first_gives given names w (record { name = w; distance = d; support = [] }) rest c follows.stopped
    (λ q. rw (follows_no_colon follows) (gives (record { name = w; distance = d; support = [] }) rest q)) p
numbers-gives given names w {rest = rest} (both {d = d} {b = b} c e) follows p =
    first_gives given names w (record { name = w; distance = d; support = b }) rest c (colon-stopped e)
    (λ q. second-gives given names w d e follows q) p
numbers-gives given names w (support bl c) follows p = support-gives given names w bl c follows p

-- a support that the grammar takes is not refused
taken-support : (given : Bool) (names : List (List ℕ)) {d b s rest : List ℕ} → Numbers (strict given names) d b s rest → refuses_fine given b ≡ false
unfolding too_fine decimals leading run
taken-support false names n = refl
taken-support true names nothing = refl
taken-support true names (distance c) = refl
taken-support true names (both c (colon bl gap n short)) = short.1
taken-support true names (support bl (colon bl₁ gap n short)) = short.1

-- so what stands behind a node is read as it is written
pub supported-gives :
    (given : Bool) (names : List (List ℕ)) (w : List ℕ) {d b s rest : List ℕ} → Numbers (strict given names) d b s rest → Follows rest → (p : ℕ)
    → Gives (supported given w s p) (record { name = w; distance = d; support = b }) rest
unfolding supported
supported-gives given names w {d} {b} {s} {rest} n follows p =
    gives_then (numbers w s p) (λ b s p. unless_fine (refuses_fine given b.support) b s p) (numbers-gives given names w n follows p)
    (λ q. rw (taken-support given names n) (gives (record { name = w; distance = d; support = b }) rest q))

-- behind a name stands what stops it
pub numbers-stopped : {R : Rules} {d b s rest : List ℕ} → Numbers R d b s rest → Follows rest → Stopped s
numbers-stopped nothing follows = follows.stopped
numbers-stopped (distance c) follows = colon-stopped c
numbers-stopped (both c e) follows = colon-stopped c
numbers-stopped (support bl c) follows = colon-stops bl

-- ---- names

pub name-gives : {w s rest : List ℕ} → Spells w s rest → next_label rest ≡ false → length w ≤ label_bytes → (p : ℕ) → Gives (name s p) w rest
unfolding name
name-gives {w} {s} {rest} r stops short p =
    let e = whole_exact (record { spelled = r; over = no_label_over s rest stops }) in
    rw (e.short short, e.name, e.left) (gives w rest (p + e.width))

pub inner_name-gives :
    (given : Bool) (names : List (List ℕ)) {w s rest : List ℕ} → Inner (strict given names) w s rest → Stopped rest → (p : ℕ) → Gives (inner_name s p) w rest
unfolding inner_name
inner_name-gives given names {rest = rest} nameless stop p =
    rw (stopped-skip-label stop) (gives [] rest p)
inner_name-gives given names {s = s} (named {mid = mid} gap r short) stop p =
    let e = blanks-skip gap (label_no_blank mid (spells_first r)) in
    let is : next_label (skip s) ≡ true = rw e (spells_first r) in
    rw (is, e) (name-gives r (stopped-label stop) short (p + blanks s))
