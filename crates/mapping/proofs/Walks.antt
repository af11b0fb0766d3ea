-- Reading a mapping label by label: from the head of a line to its individuals, from one of them to the next or to the next line, and what stands behind the last.
use Prim.Native.Nat.{ℕ, suc, ◌+◌, ◌≤◌, ◌<◌, zero-le}
use native.Mathlib.Nat.{not-suc-le-zero}
use native.Mathlib.Decide.{dec_lt}
use native.Mathlib.Omega.{arith}
use mathlib.Core.Path.{◌≡◌, refl, sym, ap, subst, ◌∙◌}
use mathlib.Core.Bool.{Bool, true, false, not}
use mathlib.Core.List.Memᴰ
use mathlib.Core.List.{List, [], ◌∷◌, ◌++◌}
use lib.ListN.{length, drop}
use borrow.Author.Tests.{not-true}
use Rattle.clusters.specs.Sets.{whole, single, union, apart}
use Rattle.clusters.proofs.Sets.{union-zero, union_assoc}
use Rattle.labels.specs.Bytes.{is_label}
use Rattle.labels.specs.Labels.{Told, told}
use Rattle.labels.specs.Labels.Told.{ended}
use Rattle.labels.proofs.Telling.{ended-short}
use Rattle.trees.specs.Lists.{Among, keep, up_to}
use Rattle.trees.specs.Valid.{among}
use Rattle.trees.proofs.Booleans.{unless, never_both}
use Rattle.trees.proofs.Listing.{among-keep, some_of, of_some}
use Rattle.trees.proofs.UpTo.{among-up_to, up_to-among}
use Rattle.trees.proofs.ValidTest.{tells_among}
use Rattle.roster.specs.Roster.{byte_at, name_at, names, position}
use Rattle.roster.specs.Table.{slots}
use Rattle.roster.proofs.Names.{table-finds}
use Rattle.mapping.specs.Mapping.{line_begins, item_begins, species_at, member_at, line_at, members, who_at, named, named_in, own_by, compared_at, fault_at, faulty}
use Rattle.mapping.specs.Groups.{set_of}
use Rattle.mapping.specs.Work.{FirstAt, OfRoster, Begun, LabelEnds, Heading, Listing, Met, Listed}
use Rattle.mapping.proofs.Naming.{NoMember, named_none, named_still, in_still, named_more, in_more, in_none}
use Rattle.mapping.proofs.IndividualSets.{set_none, set_more, apart-new, met-again, set_whole, whole_all}
use Rattle.mapping.proofs.FaultKinds.{no_stray_end, compared, none_compared, other_here, no_other, no_other_label, unknown_here, no_unknown, no_unknown_label, again_here, no_again}
use Rattle.mapping.proofs.FaultKinds.{no_again_label, beyond_here, no_beyond_end, no_open_line, missing, left_out_here, none_left_out, fault_other, fault-unknown, fault-again, fault-beyond}
use Rattle.mapping.proofs.FaultKinds.{fault_left_out, fault_none, clean-unknown, unknown-known, clean-good}
use Rattle.mapping.proofs.LabelSteps.{species_here, member_here, no_member_here, no_species_here, member_kind, first_clean, end_begins, end_own}
use Rattle.mapping.proofs.Outcomes.{clean_more, first_here, open_next, no_colon, colon_next, no-comma, comma_next, feed_next, none_until}

-- looking the name of a label up in the table of a good roster tells where it stands among the names
pub looked_up : (most : ℕ) (line : List ℕ) (n : ℕ) (held : List ℕ) → OfRoster most line n held → (text : List ℕ) (at next : ℕ) (name : List ℕ) → LabelEnds text at next name
    → position name (slots n held) ≡ position (name_at text at) (names line)
unfolding name_at
looked_up most line n held of text at next name ends =
    rw (ends.called, of.counted, of.tabled) (table-finds most line of.good (drop at text) (ended-short (drop at text) ends.n ends.says))

-- ---- the head of a line

-- the first line begins with the text
pub heading_first : (species individuals : List (List ℕ)) (text : List ℕ) → Heading species individuals text 0 0 0
unfolding line_at
heading_first species individuals text =
    record {
      begun = record {
        within = zero-le;
        fresh = refl;
        clean = λ q l. absurd (not-suc-le-zero l);
        past = λ q l. absurd (not-suc-le-zero l);
        counted = refl;
      };
      starts = refl;
      all = sym set_none ∙ ap set_of (sym (named_none individuals text));
    }

module _ (species individuals : List (List ℕ)) (text : List ℕ) (line at taken : ℕ) (h : Heading species individuals text line at taken)
    (few : line < length species) (next : ℕ) (name : List ℕ) (ends : LabelEnds text at next name) where
  abbrev n : ℕ
  n = ends.n

  -- another species' name, or none
  pub wrong-species : (position (name_at text at) species ≡ line → ⊥) → FirstAt species individuals text at
  wrong-species other =
      let b = h.begun in
      first_here species individuals text line at b few (fault_other text at species individuals
      (other_here text at species (compared text at (species_at text) n (species_here text at ends.label h.starts) ends.says) (λ e. other (e ∙ b.counted))))

  module _ (right : position (name_at text at) species ≡ line) where
    head-fine : fault_at species individuals text at ≡ false
    head-fine =
        let b = h.begun in
        let none = no_member_here text at h.starts in
        first_clean text at (record { fresh = b.fresh; label = ends.label }) b.past species individuals (rw b.counted few) (ap (λ (t : Told). own_by t at at) ends.says)
        (no_other text at species (right ∙ sym b.counted))
        (no_unknown_label text at individuals (none_compared text at (member_at text) none))
        (no_again_label text at individuals (none_compared text at (member_at text) none))

    -- the text ends behind it, or another byte than a colon stands there
    pub head_open : next ≡ length text → FirstAt species individuals text next
    head_open e = rw ends.place (open_next species individuals text line at h.begun few ends.label n ends.says head-fine (sym ends.place ∙ e))

    pub head-stray : next < length text → (byte_at text next ≡ 58 → ⊥) → FirstAt species individuals text next
    head-stray here other =
        rw ends.place (no_colon species individuals text line at h.begun few ends.label n ends.says head-fine h.starts (rw ends.place at here)
        (λ e. other (rw ends.place e)))

    none_named : NoMember text at (suc n)
    none_named q l m = by (dec_lt at q)
      where
        by : Dec (at < q) → member_at text q ≡ false
        by (yes k) = none_until species individuals text line at h.begun few ends.label n ends.says head-fine q k (omega arith)
        by (no k) = let e : q ≡ at = omega arith in rw e (no_member_here text at h.starts)

    last_head : suc (at + n) ≡ next + 1
    last_head = let p = ends.place in omega arith

    -- the head of a line names no individual
    pub head-named : (named individuals text (next + 1) ≡ named individuals text at) × (named_in individuals text line (next + 1) ≡ [])
    head-named =
        let e : at + suc n ≡ next + 1 = let p = ends.place in omega arith in (
          ap (named individuals text) (sym e) ∙ named_still individuals text (suc n) at none_named,
          ap (named_in individuals text line) (sym e) ∙ in_still individuals text line (suc n) at none_named
              ∙ ap (λ (i : ℕ). named_in individuals text i at) (sym h.begun.counted) ∙ in_none individuals text at h.starts,
        )

    -- a colon: the individuals begin
    pub head-listing : next < length text → byte_at text next ≡ 58 → Listing species individuals text line (next + 1) taken 0
    head-listing here colon =
        let so = colon_next species individuals text line at h.begun few ends.label n ends.says head-fine h.starts (rw ends.place at here) (rw ends.place at colon) in
        record {
          begun = rw last_head at so.0;
          few = few;
          starts = subst (λ (p : ℕ). item_begins text p ≡ true) last_head so.1;
          grouped = sym set_none ∙ ap set_of (sym head-named.1);
          all = union-zero taken ∙ h.all ∙ ap set_of (sym head-named.0);
        }

-- ---- an individual

module _ (species individuals : List (List ℕ)) (text : List ℕ) (line at taken group : ℕ) (l : Listing species individuals text line at taken group) where
  module _ (label : is_label (byte_at text at) ≡ true) (n : ℕ) (says : told (drop at text) ≡ ended n) where
    member_compared : compared_at (member_at text) text at ≡ true
    member_compared = compared text at (member_at text) n (member_here text at label l.starts) says

    -- no individual, or one that stands before
    pub unknown_member : length individuals ≤ who_at individuals text at → FirstAt species individuals text at
    unknown_member k =
        first_here species individuals text line at l.begun l.few (fault-unknown text at species individuals (unknown_here text at individuals member_compared k))

    pub member_again : apart (single (who_at individuals text at)) (union taken group) ≡ false → FirstAt species individuals text at
    member_again e =
        first_here species individuals text line at l.begun l.few (fault-again text at species individuals
        (again_here text at individuals member_compared (met-again (named individuals text at) (who_at individuals text at) (rw l.all at e))))

    pub member_new : apart (single (who_at individuals text at)) (union taken group) ≡ true → among (who_at individuals text at) (named individuals text at) ≡ false
    member_new e = apart-new (named individuals text at) (who_at individuals text at) (rw l.all at e)

    module _ (known : who_at individuals text at < length individuals) (new : among (who_at individuals text at) (named individuals text at) ≡ false) where
      pub member_fine : fault_at species individuals text at ≡ false
      member_fine =
          let b = l.begun in
          first_clean text at (record { fresh = b.fresh; label = label }) b.past species individuals (rw b.counted l.few) (ap (λ (t : Told). own_by t at at) says)
          (no_other_label text at species (none_compared text at (species_at text) (no_species_here text at l.starts)))
          (no_unknown text at individuals known)
          (no_again text at individuals new)

      pub member_open : at + n ≡ length text → FirstAt species individuals text (at + n)
      member_open = open_next species individuals text line at l.begun l.few label n says member_fine

  -- one more individual, and what stands behind it
  module _ (next one : ℕ) (m : Met individuals text at next one) where
    fine : fault_at species individuals text at ≡ false
    fine = member_fine m.label m.n m.says m.known m.new

    abbrev who : ℕ
    who = who_at individuals text at

    is_member : member_at text at ≡ true
    is_member = member_here text at m.label l.starts

    here : at + m.n < length text
    here = rw m.place at m.here

    byte_next : (c : ℕ) → byte_at text next ≡ c → byte_at text (at + m.n) ≡ c
    byte_next c e = rw m.place at e

    next_is_lem : suc at + m.n ≡ next + 1
    next_is_lem = let p = m.place in omega arith

    last_is : suc (at + m.n) ≡ next + 1
    last_is = let p = m.place in omega arith

    none : NoMember text (suc at) m.n
    none = none_until species individuals text line at l.begun l.few m.label m.n m.says fine

    pub named_next : named individuals text (next + 1) ≡ named individuals text at ++ (who ∷ [])
    named_next = ap (named individuals text) (sym next_is_lem) ∙ named_still individuals text m.n (suc at) none ∙ named_more individuals text at is_member

    pub in_next : named_in individuals text line (next + 1) ≡ named_in individuals text line at ++ (who ∷ [])
    in_next =
        ap (named_in individuals text line) (sym next_is_lem) ∙ in_still individuals text line m.n (suc at) none
        ∙ subst (λ (i : ℕ). named_in individuals text i (suc at) ≡ named_in individuals text i at ++ (who ∷ [])) l.begun.counted (in_more individuals text at is_member)

    group_next : union group one ≡ set_of (named_in individuals text line (next + 1))
    group_next = rw (l.grouped, m.alone) (sym (set_more (named_in individuals text line at) who)) ∙ ap set_of (sym in_next)

    all_next : union taken (union group one) ≡ set_of (named individuals text (next + 1))
    all_next = sym (union_assoc taken group one) ∙ rw (l.all, m.alone) (sym (set_more (named individuals text at) who)) ∙ ap set_of (sym named_next)

    pub list-stray : (byte_at text next ≡ 10 → ⊥) → (byte_at text next ≡ 44 → ⊥) → FirstAt species individuals text next
    list-stray feed comma =
        rw m.place (no-comma species individuals text line at l.begun l.few m.label m.n m.says fine l.starts here (λ e. feed (rw m.place e)) (λ e. comma (rw m.place e)))

    pub list_more : byte_at text next ≡ 44 → Listing species individuals text line (next + 1) taken (union group one)
    list_more comma =
        let so = comma_next species individuals text line at l.begun l.few m.label m.n m.says fine l.starts here (byte_next 44 comma) in
        record { begun = rw last_is at so.0; few = l.few; starts = subst (λ (p : ℕ). item_begins text p ≡ true) last_is so.1; grouped = group_next; all = all_next }

    pub list_ends : byte_at text next ≡ 10 → Listed species individuals text line (next + 1) taken (union group one)
    list_ends feed =
        let so = feed_next species individuals text line at l.begun l.few m.label m.n m.says fine l.starts here (byte_next 10 feed) in
        record { heading = record { begun = rw last_is at so.0; starts = subst (λ (p : ℕ). line_begins text p ≡ true) last_is so.1; all = all_next }; grouped = group_next }

-- ---- behind the last line

module _ (species individuals : List (List ℕ)) (text : List ℕ) (line at : ℕ) (b : Begun species individuals text line at) where
  -- each individual that was named is one of the roster
  pub named-known : (j : ℕ) → Among j (named individuals text at) → j < length individuals
  unfolding named members
  named-known j h =
      let m = Memᴰ.of_map (who_at individuals text) (keep (member_at text) (up_to at)) h in
      let k = among-keep (member_at text) (up_to at) m.1 in
      rw (sym m.2) (by m.0 (among-up_to at k.0) k.1)
    where
      by : (q : ℕ) → q < at → member_at text q ≡ true → who_at individuals text q < length individuals
      by q l e =
          let ends = b.past q l (member_kind text q e) in
          unknown-known text q individuals (compared text q (member_at text) ends.n e ends.says) (clean-unknown text q species individuals (b.clean q l))

module _ (species individuals : List (List ℕ)) (text : List ℕ) (at taken : ℕ) (h : Heading species individuals text (length species) at taken) where
  abbrev b : Begun species individuals text (length species) at
  b = h.begun

  -- something stands there
  pub stands-beyond : at < length text → FirstAt species individuals text at
  stands-beyond here =
      record {
        within = b.within;
        here = fault-beyond text at species individuals (beyond_here text at species here (omega (arith, b.counted)));
        clean = b.clean;
      }

  module _ (over : at ≡ length text) where
    -- an individual that is not left out was named
    pub none_missing : missing text at individuals ≡ false → (j : ℕ) → j < length individuals → Among j (named individuals text at)
    none_missing e j l = by (among j (named individuals text at)) refl
      where
        by : (t : Bool) → among j (named individuals text at) ≡ t → Among j (named individuals text at)
        by true f = (tells_among j (named individuals text at)).holds f
        by false f =
            absurd (never_both (missing text at individuals)
            (some_of (λ i. not (among i (named individuals text at))) (up_to (length individuals)) (up_to-among (length individuals) l) (rw f refl)) e)

    pub leaves-out : (taken ≡ whole (length individuals) → ⊥) → FirstAt species individuals text at
    leaves-out other =
        record {
          within = b.within;
          here = fault_left_out text at species individuals (left_out_here text at individuals over (by (missing text at individuals) refl));
          clean = b.clean;
        }
      where
        by : (t : Bool) → missing text at individuals ≡ t → t ≡ true
        by true e = refl
        by false e =
            absurd (other (h.all ∙ set_whole (length individuals) (named individuals text at) (named-known species individuals text (length species) at b) (none_missing e)))

    module _ (full : taken ≡ whole (length individuals)) where
      none_left : missing text at individuals ≡ false
      none_left =
          unless (missing text at individuals) (λ e.
          let r = of_some (λ j. not (among j (named individuals text at))) (up_to (length individuals)) e in
          let m = whole_all (length individuals) (named individuals text at) (sym h.all ∙ full) r.0 (among-up_to (length individuals) r.1) in
          never_both (among r.0 (named individuals text at)) ((tells_among r.0 (named individuals text at)).told m)
          (not-true (among r.0 (named individuals text at)) r.2))

      end_fine : fault_at species individuals text at ≡ false
      end_fine =
          let none = end_begins text at b.past over in
          fault_none text at species individuals (record {
            stray = no_stray_end text at (omega arith);
            own = end_own text at b.past over;
            other = no_other_label text at species (none_compared text at (species_at text) none.0);
            unknown = no_unknown_label text at individuals (none_compared text at (member_at text) none.1);
            again = no_again_label text at individuals (none_compared text at (member_at text) none.1);
            beyond = no_beyond_end text at species (omega arith);
            ending = no_open_line text at species (omega (arith, b.counted));
            left_out = none_left_out text at individuals none_left;
          })

      pub ends_good : faulty species individuals text ≡ false
      ends_good = clean-good species individuals text (rw (sym over) (clean_more species individuals text at b.clean end_fine))
