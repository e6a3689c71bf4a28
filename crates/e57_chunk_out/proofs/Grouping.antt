-- Laws of the fields' streams with more items: they are the run with the groups of these records.
use Rattle.std.proofs.Common.{◌≡◌, ℕ, ◌+◌, ◌<◌, ◌≤◌, min, Bool, true, false, List, [], ◌∷◌, ◌++◌, length, map, Some, None, refl, sym, ap, subst, ◌∙◌, arith, ⊎_elim}
use Rattle.std.specs.List.{AllByRecursion}
use Rattle.std.proofs.lemmas.Bool.{cases_lt}
use Rattle.std.proofs.lemmas.List.{length-map}
use Rattle.e57_layout.specs.Values.{ItemKind, Value, IsKind}
use Rattle.e57_layout.specs.Items.{AreColumns, field_bytes}
use Rattle.e57_layout.specs.Packing.{first_records, later_records, group_streams, join_streams, fits_packet, poured, chunk_groups}
use Rattle.e57_layout.specs.Steps.{steps}
use Rattle.e57_chunk_out.specs.Waiting.{Waiting, part, taken, IsWaiting}
use Rattle.e57_chunk_out.specs.Cutting.{streams_of}
use Rattle.e57_chunk_out.specs.Grouping.{kinds_of, columns_of, run_of, IsFresh}
use Rattle.e57_chunk_out.proofs.Joins.{first-first, first-all}
use Rattle.e57_chunk_out.proofs.Stepping.{joined_to, HasAsMany, steps-fitting, steps-flush, steps-poured}
use Rattle.e57_chunk_out.proofs.Side.{grown}
use Rattle.e57_chunk_out.proofs.Waits.{part_items, length-part}

-- n records, from `from` on
abbrev pub records_at : ℕ → ℕ → List Waiting → List (List Value)
records_at from n fields = first_records n (later_records from (columns_of fields))

pub grown-joined : (from n : ℕ) (fields : List Waiting) → grown from n fields ≡ join_streams (streams_of fields) (group_streams (kinds_of fields) (records_at from n fields))
unfolding group_streams join_streams first_records later_records
grown-joined from n [] = refl
grown-joined from n (w ∷ fields) = ap (λ (ss : List (List ℕ)). (w.stream ++ field_bytes w.kind (part from n w.items)) ∷ ss) (grown-joined from n fields)

pub grown-fresh : (from n : ℕ) (fields : List Waiting) → AllByRecursion IsFresh fields → grown from n fields ≡ group_streams (kinds_of fields) (records_at from n fields)
unfolding group_streams first_records later_records
grown-fresh from n [] h = refl
grown-fresh from n (w ∷ fields) h = rw (h.0, grown-fresh from n fields h.1) refl

-- with a run or without one
pub grown-is : (from n : ℕ) (fields : List Waiting) (has_run : Bool) → (has_run ≡ false → AllByRecursion IsFresh fields) → grown from n fields ≡ joined_to (run_of has_run fields) (group_streams (kinds_of fields) (records_at from n fields))
grown-is from n fields true h = grown-joined from n fields
grown-is from n fields false h = grown-fresh from n fields (h refl)

pub records-are : (from n : ℕ) (fields : List Waiting) → AllByRecursion IsWaiting fields → AllByRecursion (λ (w : Waiting). from + n ≤ length w.items) fields → AreColumns (kinds_of fields) n (records_at from n fields)
unfolding first_records later_records
records-are from n [] h g = tt
records-are from n (w ∷ fields) h g = (length-part from n w.items g.0, part_items w.kind from n w.items h.0.items, records-are from n fields h.1 g.1)

pub kinds-are : (fields : List Waiting) → AllByRecursion IsWaiting fields → AllByRecursion IsKind (kinds_of fields)
kinds-are [] h = tt
kinds-are (w ∷ fields) h = (h.0.kind, kinds-are fields h.1)

-- nothing but the streams changes
pub kinds-taken : (from n : ℕ) (fields : List Waiting) → kinds_of (map (taken from n) fields) ≡ kinds_of fields
kinds-taken from n [] = refl
kinds-taken from n (w ∷ fields) = ap (λ (ks : List ItemKind). w.kind ∷ ks) (kinds-taken from n fields)

pub columns-taken : (from n : ℕ) (fields : List Waiting) → columns_of (map (taken from n) fields) ≡ columns_of fields
columns-taken from n [] = refl
columns-taken from n (w ∷ fields) = ap (λ (cs : List (List Value)). w.items ∷ cs) (columns-taken from n fields)

module _ (from n : ℕ) (fields : List Waiting) (has_run : Bool) (some : 0 < n) (are : AllByRecursion IsWaiting fields) (there : AllByRecursion (λ (w : Waiting). from + n ≤ length w.items) fields) (fresh : has_run ≡ false → AllByRecursion IsFresh fields) where
  abbrev groups : List (List (List ℕ))
  groups = chunk_groups (kinds_of fields) (record { count = n; columns = records_at from n fields })

  as-many : HasAsMany (length (kinds_of fields)) (run_of has_run fields)
  as-many = by_run has_run
    where
      by_run : (b : Bool) → HasAsMany (length (kinds_of fields)) (run_of b fields)
      by_run true = length-map fields (λ (w : Waiting). w.stream) ∙ sym (length-map fields (λ (w : Waiting). w.kind))
      by_run false = tt

  -- groups that fit are a longer run
  pub groups-fit : fits_packet (grown from n fields) ≡ true → steps (run_of has_run fields) groups ≡ record { done = []; run = Some (grown from n fields) }
  groups-fit fit =
      let is = grown-is from n fields has_run fresh in
      steps-fitting n (kinds_of fields) n (records_at from n fields) (run_of has_run fields) (omega arith) some (kinds-are fields are) (records-are from n fields are there) as-many (subst (λ (ss : List (List ℕ)). fits_packet ss ≡ true) is fit)
      ∙ ap (λ (ss : List (List ℕ)). record { done = []; run = Some ss }) (sym is)

-- the first group of some records, of which there are as many as belong to it
pub first-group : (from n most : ℕ) (fields : List Waiting) → AreColumns (kinds_of fields) n (records_at from n fields) → n ≤ most → min 8 most ≤ n → first_records 8 (records_at from n fields) ≡ records_at from (min 8 most) fields
first-group from n most fields are h g = ⊎_elim
    (λ few.
    let same : min 8 most ≡ n = omega arith in
    first-all (kinds_of fields) n 8 (records_at from n fields) are (omega arith) ∙ ap (λ m. records_at from m fields) (sym same))
    (λ many.
    let eight : min 8 most ≡ 8 = omega arith in
    first-first 8 n (later_records from (columns_of fields)) (omega arith) ∙ ap (λ m. records_at from m fields) (sym eight))
    (cases_lt n 8)

module _ (from n most : ℕ) (fields : List Waiting) (some : 0 < n) (are : AllByRecursion IsWaiting fields) (there : AllByRecursion (λ (w : Waiting). from + n ≤ length w.items) fields) (within : n ≤ most) where
  -- where the first group doesn't fit behind the run, the run is a packet
  pub groups-flush : min 8 most ≤ n → fits_packet (grown from (min 8 most) fields) ≡ false
      → steps (Some (streams_of fields)) (chunk_groups (kinds_of fields) (record { count = n; columns = records_at from n fields }))
      ≡ record { done = streams_of fields ∷ (steps None (chunk_groups (kinds_of fields) (record { count = n; columns = records_at from n fields }))).done; run = (steps None (chunk_groups (kinds_of fields) (record { count = n; columns = records_at from n fields }))).run }
  groups-flush many over =
      let first = first-group from n most fields (records-are from n fields are there) within many in
      steps-flush (kinds_of fields) n (records_at from n fields) (streams_of fields) some
      (subst (λ (ss : List (List ℕ)). fits_packet ss ≡ false) (grown-joined from (min 8 most) fields ∙ ap (λ (cs : List (List Value)). join_streams (streams_of fields) (group_streams (kinds_of fields) cs)) (sym first)) over)

  -- and where it doesn't fit in a packet by itself, it is poured
  pub groups-poured : n ≤ 8 → AllByRecursion IsFresh fields → fits_packet (grown from n fields) ≡ false
      → steps None (chunk_groups (kinds_of fields) (record { count = n; columns = records_at from n fields })) ≡ record { done = poured (grown from n fields); run = None }
  groups-poured few fresh over =
      let is = grown-fresh from n fields fresh in
      steps-poured (kinds_of fields) n (records_at from n fields) some few (records-are from n fields are there) (subst (λ (ss : List (List ℕ)). fits_packet ss ≡ false) is over)
      ∙ ap (λ (ss : List (List ℕ)). record { done = poured ss; run = None }) (sym is)
