-- Laws of records after records, and of groups of them.
use Rattle.std.proofs.Common.{◌≡◌, ℕ, ◌+◌, ◌-◌, ◌*◌, ◌<◌, ◌≤◌, List, [], ◌∷◌, ◌++◌, length, map, refl, ap, ◌∙◌, arith}
use Rattle.std.proofs.lemmas.List.{take_all, take-take, take-append-le, drop-append-le, map-append, take-append-drop, drop-take}
use Rattle.e57_layout.specs.Values.{ItemKind, Value}
use Rattle.e57_layout.specs.Items.{AreColumns}
use Rattle.e57_layout.specs.Packing.{first_records, later_records, join_columns, Block, blocks, group_length, group_streams, chunk_groups}
use Rattle.e57_layout.proofs.Laws.Blocks.{blocks-joined, blocks-none, blocks-step}

pub later-join : (kinds : List ItemKind) (n m i : ℕ) (columns more : List (List Value)) → AreColumns kinds n columns → AreColumns kinds m more → i ≤ n → later_records i (join_columns columns more) ≡ join_columns (later_records i columns) more
unfolding later_records join_columns
later-join [] n m i [] [] h g l = refl
later-join [] n m i [] (x ∷ more) h g l = absurd g
later-join [] n m i (column ∷ columns) more h g l = absurd h
later-join (kind ∷ kinds) n m i [] more h g l = absurd h
later-join (kind ∷ kinds) n m i (column ∷ columns) [] h g l = absurd g
later-join (kind ∷ kinds) n m i (column ∷ columns) (x ∷ more) h g l =
    let within : i ≤ length column = omega (arith, h.0) in
    rw (drop-append-le i column x within, later-join kinds n m i columns more h.2 g.2 l) refl

pub first-join : (kinds : List ItemKind) (n m i : ℕ) (columns more : List (List Value)) → AreColumns kinds n columns → AreColumns kinds m more → i ≤ n → first_records i (join_columns columns more) ≡ first_records i columns
unfolding first_records join_columns
first-join [] n m i [] [] h g l = refl
first-join [] n m i [] (x ∷ more) h g l = absurd g
first-join [] n m i (column ∷ columns) more h g l = absurd h
first-join (kind ∷ kinds) n m i [] more h g l = absurd h
first-join (kind ∷ kinds) n m i (column ∷ columns) [] h g l = absurd g
first-join (kind ∷ kinds) n m i (column ∷ columns) (x ∷ more) h g l =
    let within : i ≤ length column = omega (arith, h.0) in
    rw (take-append-le i column x within, first-join kinds n m i columns more h.2 g.2 l) refl

pub first-all : (kinds : List ItemKind) (n i : ℕ) (columns : List (List Value)) → AreColumns kinds n columns → n ≤ i → first_records i columns ≡ columns
unfolding first_records
first-all [] n i [] h l = refl
first-all [] n i (column ∷ columns) h l = absurd h
first-all (kind ∷ kinds) n i [] h l = absurd h
first-all (kind ∷ kinds) n i (column ∷ columns) h l =
    let within : length column ≤ i = omega (arith, h.0) in
    rw (take_all i column within, first-all kinds n i columns h.2 l) refl

pub first-first : (i j : ℕ) (columns : List (List Value)) → i ≤ j → first_records i (first_records j columns) ≡ first_records i columns
unfolding first_records
first-first i j [] l = refl
first-first i j (column ∷ columns) l = rw (take-take i j column l, first-first i j columns l) refl

pub cut-joined_at : (n : ℕ) (columns : List (List Value)) → join_columns (first_records n columns) (later_records n columns) ≡ columns
unfolding first_records later_records join_columns
cut-joined_at n [] = refl
cut-joined_at n (column ∷ columns) = rw (take-append-drop n column, cut-joined_at n columns) refl

-- the first records and the later ones
pub cut-joined : (kinds : List ItemKind) (count : ℕ) (columns : List (List Value)) → AreColumns kinds count columns → join_columns (first_records 8 columns) (later_records 8 columns) ≡ columns
cut-joined kinds count columns h = cut-joined_at 8 columns

-- ---- groups

pub groups-none : (kinds : List ItemKind) (columns : List (List Value)) → chunk_groups kinds (record { count = 0; columns = columns }) ≡ []
unfolding chunk_groups
groups-none kinds columns = rw blocks-none refl

-- the first group, and those after it
pub groups-step : (kinds : List ItemKind) (count : ℕ) (columns : List (List Value)) → 0 < count → chunk_groups kinds (record { count = count; columns = columns }) ≡ group_streams kinds (first_records 8 columns) ∷ chunk_groups kinds (record { count = count - 8; columns = later_records 8 columns })
unfolding chunk_groups
groups-step kinds count columns some = ap (map (λ (group : Block). group_streams kinds group.columns)) (blocks-step 8 count columns (omega arith) some)

-- groups after whole groups
pub groups-join : (kinds : List ItemKind) (m k : ℕ) (columns more : List (List Value)) → AreColumns kinds (8 * m) columns → AreColumns kinds k more
    → chunk_groups kinds (record { count = 8 * m + k; columns = join_columns columns more }) ≡ chunk_groups kinds (record { count = 8 * m; columns = columns }) ++ chunk_groups kinds (record { count = k; columns = more })
unfolding chunk_groups
groups-join kinds m k columns more h g =
    ap (map (λ (group : Block). group_streams kinds group.columns)) (blocks-joined kinds m 8 k columns more (omega arith) h g)
    ∙ map-append (λ (group : Block). group_streams kinds group.columns) (blocks group_length (8 * m) columns) (blocks group_length k more)

pub first-later : (n m : ℕ) (columns : List (List Value)) → later_records n (first_records (n + m) columns) ≡ first_records m (later_records n columns)
unfolding first_records later_records
first-later n m [] = refl
first-later n m (column ∷ columns) = rw (drop-take n m column, first-later n m columns) refl
