-- What reading the head of a line, one individual, and all individuals of a line come to, way by way.
use Prim.Native.Nat.{ℕ, ◌+◌, ◌≤◌, ◌<◌}
use native.Mathlib.Omega.{arith}
use native.Mathlib.Decide.{dec_lt}
use mathlib.Core.Path.{◌≡◌, refl, sym, ap, subst, ◌∙◌}
use mathlib.Core.Bool.{Bool, true, false, not, true≢false}
use mathlib.Core.List.{List}
use lib.ListN.{length, drop}
use lib.Dec.{eqb}
use borrow.Author.Tests.{eq-eqb, eqb-true}
use Rattle.std.proofs.Common.{Result, Ok, Err, Option, None, Some, MatchOption}
use Rattle.std.specs.Option.{option_eq}
use Rattle.faults.specs.declared.Fault.TheVariants.{FaultyMapping}
use Rattle.faults.specs.declared.Refusal.{Refusal}
use Rattle.labels.specs.Bytes.{next_is}
use Rattle.labels.specs.declared.Scanned.{Scanned}
use Rattle.labels.proofs.FirstBytes.{next_here, next_within}
use Rattle.clusters.specs.Sets.{single, union, apart}
use Rattle.roster.specs.Roster.{byte_at, name_at, names, position}
use Rattle.roster.specs.Table.{slots, Sought}
use Rattle.mapping.specs.Mapping.{who_at}
use Rattle.mapping.specs.Work.{FirstAt, OfRoster, Refused, Reads, Onward, Followed, Begun, LabelEnds, LabelRead, Heading, Listing, HeadRead, Met, MemberRead, GroupRead}
use Rattle.mapping.specs.declared.lines.Individuals.{Individuals}
use Rattle.mapping.proofs.Walks.{looked_up, wrong-species, head_open, head-stray, head-listing, unknown_member, member_again, member_new, member_open, list-stray, list_more, list_ends}

-- the refusal of the mapping at a place
abbrev pub refused_at : ℕ → Refusal
refused_at place = record { fault = FaultyMapping; place = place }

-- a name that was found stands there, and nowhere else
pub found_there : (n p i : ℕ) (r : Option ℕ) → Sought n p r → not (option_eq eqb r (Some i)) ≡ false → p ≡ i
found_there n p i None s e = absurd (true≢false e)
found_there n p i (Some j) s e = by (eqb j i) refl e
  where
    by : (t : Bool) → eqb j i ≡ t → not t ≡ false → p ≡ i
    by true is e = let same = eqb-true j i is in omega arith
    by false is e = absurd (true≢false e)

pub found_elsewhere : (n p i : ℕ) (r : Option ℕ) → Sought n p r → not (option_eq eqb r (Some i)) ≡ true → i < n → p ≡ i → ⊥
found_elsewhere n p i None s e few same = omega arith
found_elsewhere n p i (Some j) s e few same =
    let here : j ≡ i = omega arith in true≢false (sym e ∙ ap (λ (t : Bool). not t) (eq-eqb j i here))

-- where the line that was found is compared: whether it is the i-th
pub due_is : (i : ℕ) (r : Option ℕ) {due : Bool} {P : ℕ → Type 0} → MatchOption r (due ≡ false) P → ((j : ℕ) → P j → due ≡ eqb j i) → option_eq eqb r (Some i) ≡ due
due_is i None none same = sym none
due_is i (Some j) here same = sym (same j here)

-- ---- a label, taken apart

module _ (text : List ℕ) (at : ℕ) (l : Result Scanned Refusal) (says : LabelRead text at l) where
  module _ (species individuals : List (List ℕ)) (line : ℕ) (b : Begun species individuals text line at) (few : line < length species) where
    label_ends : (s : Scanned) → l ≡ Ok s → LabelEnds text at s.next s.name
    unfolding LabelRead
    label_ends s is = subst (Reads species individuals text (λ s. LabelEnds text at s.next s.name)) is (says.1 species individuals line b few)

    label_fails : (e : Refusal) → l ≡ Err e → Refused species individuals text e
    unfolding LabelRead
    label_fails e is = subst (Reads species individuals text (λ s. LabelEnds text at s.next s.name)) is (says.1 species individuals line b few)

  pub label_onward : (s : Scanned) → l ≡ Ok s → (at < s.next) × (s.next ≤ length text)
  unfolding LabelRead
  label_onward s is = subst (Onward (λ s. s.next) text at) is says.0

-- ---- the head of a line

module _ (held : List ℕ) (n i : ℕ) (text : List ℕ) (at : ℕ) (l : Result Scanned Refusal) (says : LabelRead text at l) where
  pub head_fails : (e : Refusal) → l ≡ Err e → HeadRead held n i text at (Err e)
  unfolding HeadRead
  head_fails e is = (tt, λ line individuals taken of few h. label_fails text at l says (names line) individuals i h.begun (rw of.counted at few) e is)

  module _ (s : Scanned) (is : l ≡ Ok s) where
    -- where the label's name stands among the species
    abbrev found : ℕ
    found = position s.name (slots n held)

    abbrev Walk : ℕ → Type 0
    Walk place =
        (line : List ℕ) (individuals : List (List ℕ)) (taken : ℕ) → OfRoster 16 line n held → i < length (names line)
        → Heading (names line) individuals text i at taken → LabelEnds text at s.next s.name → found ≡ position (name_at text at) (names line)
        → FirstAt (names line) individuals text place

    ends : (line : List ℕ) (individuals : List (List ℕ)) (taken : ℕ) → OfRoster 16 line n held → i < n → Heading (names line) individuals text i at taken
        → (i < length (names line)) × LabelEnds text at s.next s.name × (found ≡ position (name_at text at) (names line))
    ends line individuals taken of few h =
        let less : i < length (names line) = rw of.counted at few in
        let e = label_ends text at l says (names line) individuals i h.begun less s is in
        (less, e, looked_up 16 line n held of text at s.next s.name e)

    head-fault : (place : ℕ) → Walk place → HeadRead held n i text at (Err (refused_at place))
    unfolding HeadRead
    head-fault place walk = (
      tt,
      λ line individuals taken of few h.
          let e = ends line individuals taken of few h in
          record { faulty = refl; first = walk line individuals taken of e.0 h e.1 e.2 },
    )

    pub head-wrong : (i < n → found ≡ i → ⊥) → HeadRead held n i text at (Err (refused_at at))
    head-wrong other =
        head-fault at (λ line individuals taken of few h e f.
        wrong-species (names line) individuals text i at taken h few s.next s.name e (λ same. other (rw of.counted few) (f ∙ same)))

    module _ (right : found ≡ i) where
      -- no colon stands behind the label: the text ends there, or another byte stands there
      pub head_no_colon : next_is 58 (drop s.next text) ≡ false → HeadRead held n i text at (Err (refused_at s.next))
      head_no_colon none =
          head-fault s.next (λ line individuals taken of few h e f. by line individuals taken h few e (sym f ∙ right) (dec_lt s.next (length text)))
        where
          by : (line : List ℕ) (individuals : List (List ℕ)) (taken : ℕ) → Heading (names line) individuals text i at taken → i < length (names line)
              → LabelEnds text at s.next s.name → position (name_at text at) (names line) ≡ i → Dec (s.next < length text)
              → FirstAt (names line) individuals text s.next
          by line individuals taken h few e same (yes here) =
              head-stray (names line) individuals text i at taken h few s.next s.name e same here
              (λ colon. true≢false (sym (next_here 58 text s.next here ∙ eq-eqb (byte_at text s.next) 58 colon) ∙ none))
          by line individuals taken h few e same (no n) =
              let on = label_onward text at l says s is in
              head_open (names line) individuals text i at taken h few s.next s.name e same (omega arith)

      pub head-reads : next_is 58 (drop s.next text) ≡ true → HeadRead held n i text at (Ok (s.next + 1))
      unfolding HeadRead
      head-reads colon =
          let on = label_onward text at l says s is in
          let here = next_within 58 text s.next colon in (
            (omega arith, omega arith),
            λ line individuals taken of few h.
                let e = ends line individuals taken of few h in
                head-listing (names line) individuals text i at taken h e.0 s.next s.name e.1 (sym e.2 ∙ right) here
                (eqb-true (byte_at text s.next) 58 (sym (next_here 58 text s.next here) ∙ colon)),
          )

-- ---- one individual

module _ (held : List ℕ) (m : ℕ) (text : List ℕ) (at taken : ℕ) (l : Result Scanned Refusal) (says : LabelRead text at l) where
  pub member_fails : (e : Refusal) → l ≡ Err e → MemberRead held m text at taken (Err e)
  unfolding MemberRead
  member_fails e is = (tt, λ species line i before group of h same. label_fails text at l says species (names line) i h.begun h.few e is)

  module _ (s : Scanned) (is : l ≡ Ok s) where
    -- where the label's name stands among the individuals
    abbrev who : ℕ
    who = position s.name (slots m held)

    -- what is known of the label in a list
    record Known (species : List (List ℕ)) (line : List ℕ) (i before group : ℕ) : Type 0 where
      listing : Listing species (names line) text i at before group
      ends : LabelEnds text at s.next s.name
      found_at : who ≡ who_at (names line) text at
      counted : m ≡ length (names line)
      together : taken ≡ union before group

    known : (species : List (List ℕ)) (line : List ℕ) (i before group : ℕ) → OfRoster 32 line m held → Listing species (names line) text i at before group
        → taken ≡ union before group → Known species line i before group
    known species line i before group of h same =
        let e = label_ends text at l says species (names line) i h.begun h.few s is in
        record { listing = h; ends = e; found_at = looked_up 32 line m held of text at s.next s.name e; counted = of.counted; together = same }

    member_fault : (place : ℕ) → ((species : List (List ℕ)) (line : List ℕ) (i before group : ℕ) → Known species line i before group → FirstAt species (names line) text place)
        → MemberRead held m text at taken (Err (refused_at place))
    unfolding MemberRead
    member_fault place walk = (
      tt,
      λ species line i before group of h same.
          record { faulty = refl; first = walk species line i before group (known species line i before group of h same) },
    )

    pub member_unknown : who ≡ m → MemberRead held m text at taken (Err (refused_at at))
    member_unknown all =
        member_fault at (λ species line i before group k.
        unknown_member species (names line) text i at before group k.listing k.ends.label k.ends.n k.ends.says (omega (arith, k.found_at, k.counted, all)))

    -- the set of the one individual
    module _ (one : ℕ) (alone : one ≡ single who) where
      who-alone : (species : List (List ℕ)) (line : List ℕ) (i before group : ℕ) (k : Known species line i before group) → (t : Bool) → apart one taken ≡ t
          → apart (single (who_at (names line) text at)) (union before group) ≡ t
      who-alone species line i before group k t e = rw (← k.found_at, ← alone, ← k.together) e

      pub member_taken : apart one taken ≡ false → MemberRead held m text at taken (Err (refused_at at))
      member_taken met =
          member_fault at (λ species line i before group k.
          member_again species (names line) text i at before group k.listing k.ends.label k.ends.n k.ends.says (who-alone species line i before group k false met))

      module _ (less : who < m) (new : apart one taken ≡ true) where
        less_known : (species : List (List ℕ)) (line : List ℕ) (i before group : ℕ) (k : Known species line i before group) → who_at (names line) text at < length (names line)
        less_known species line i before group k =
            let f = k.found_at in
            let c = k.counted in
            omega arith

        pub member_ends_early : s.next ≡ length text → MemberRead held m text at taken (Err (refused_at s.next))
        member_ends_early over =
            member_fault s.next (λ species line i before group k.
            rw k.ends.place (member_open species (names line) text i at before group k.listing k.ends.label k.ends.n k.ends.says
            (less_known species line i before group k)
            (member_new species (names line) text i at before group k.listing k.ends.label k.ends.n k.ends.says (who-alone species line i before group k true new))
            (sym k.ends.place ∙ over)))

        pub member_reads : (s.next ≡ length text → ⊥) → MemberRead held m text at taken (Ok (record { set = one; next = s.next }))
        unfolding MemberRead
        member_reads more =
            let on = label_onward text at l says s is in
            let here : s.next < length text = omega (arith, more, on.1) in (
              (on.0, here),
              λ species line i before group of h same.
                  let k = known species line i before group of h same in
                  record {
                    label = k.ends.label;
                    n = k.ends.n;
                    says = k.ends.says;
                    place = k.ends.place;
                    here = here;
                    known = less_known species line i before group k;
                    new = member_new species (names line) text i at before group h k.ends.label k.ends.n k.ends.says (who-alone species line i before group k true new);
                    alone = alone ∙ ap single k.found_at;
                  },
            )

-- ---- the individuals of a line

-- from `start` on the individuals were read up to `at`, and these are they
pub record Gathered (held : List ℕ) (m : ℕ) (text : List ℕ) (start taken at group : ℕ) : Type 0 where
  pub from : start ≤ at
  pub within : at ≤ length text
  pub lists : (species : List (List ℕ)) (line : List ℕ) (i : ℕ) → OfRoster 32 line m held → Listing species (names line) text i start taken 0
      → Listing species (names line) text i at taken group

pub gathered_none : (held : List ℕ) (m : ℕ) (text : List ℕ) (start taken : ℕ) → start ≤ length text → Gathered held m text start taken start 0
gathered_none held m text start taken h = record { from = omega arith; within = h; lists = λ species line i of l. l }

module _ (held : List ℕ) (m : ℕ) (text : List ℕ) (start taken at group : ℕ) (so : Gathered held m text start taken at group)
    (all : ℕ) (are : all ≡ union taken group) (r : Result Individuals Refusal) (says : MemberRead held m text at all r) where
  member_told : (species : List (List ℕ)) (line : List ℕ) (i : ℕ) → OfRoster 32 line m held → Listing species (names line) text i start taken 0
      → Reads species (names line) text (λ s. Met (names line) text at s.next s.set) r
  unfolding MemberRead
  member_told species line i of h = says.1 species line i taken group of (so.lists species line i of h) are

  pub group_fails : (e : Refusal) → r ≡ Err e → GroupRead held m text start taken (Err e)
  unfolding GroupRead
  group_fails e is =
      (tt, λ species line i of h. subst (Reads species (names line) text (λ s. Met (names line) text at s.next s.set)) is (member_told species line i of h))

  module _ (s : Individuals) (is : r ≡ Ok s) where
    pub followed : (at < s.next) × (s.next < length text)
    unfolding MemberRead
    followed = subst (Followed text at) is says.0

    met : (species : List (List ℕ)) (line : List ℕ) (i : ℕ) → OfRoster 32 line m held → Listing species (names line) text i start taken 0
        → Met (names line) text at s.next s.set
    met species line i of h = subst (Reads species (names line) text (λ s. Met (names line) text at s.next s.set)) is (member_told species line i of h)

    pub group-stray : (byte_at text s.next ≡ 10 → ⊥) → (byte_at text s.next ≡ 44 → ⊥) → GroupRead held m text start taken (Err (refused_at s.next))
    unfolding GroupRead
    group-stray feed comma = (
      tt,
      λ species line i of h. record {
        faulty = refl;
        first = list-stray species (names line) text i at taken group (so.lists species line i of h) s.next s.set (met species line i of h) feed comma;
      },
    )

    module _ (more : ℕ) (is-more : more ≡ union group s.set) where
      pub group_ends : byte_at text s.next ≡ 10 → GroupRead held m text start taken (Ok (record { set = more; next = s.next + 1 }))
      unfolding GroupRead
      group_ends feed =
          let on = followed in
          let f = so.from in (
            (omega arith, omega arith),
            λ species line i of h.
                rw is-more (list_ends species (names line) text i at taken group (so.lists species line i of h) s.next s.set (met species line i of h) feed),
          )

      pub gathered_more : byte_at text s.next ≡ 44 → Gathered held m text start taken (s.next + 1) more
      gathered_more comma =
          let on = followed in
          let f = so.from in
          record {
            from = omega arith;
            within = omega arith;
            lists = λ species line i of h.
                rw is-more (list_more species (names line) text i at taken group (so.lists species line i of h) s.next s.set (met species line i of h) comma);
          }
