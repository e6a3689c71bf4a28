-- Laws of how the entries of an index are cut into packets and levels.
use Rattle.std.proofs.Common.{◌≡◌, ℕ, zero, suc, ◌+◌, ◌-◌, ◌*◌, ◌/◌, ◌<◌, ◌≤◌, min, List, [], ◌∷◌, ◌++◌, length, take, drop, refl, sym, ap, ◌∙◌, arith, ⊎_elim, inl, inr, ◌⊎◌, ◌^◌, length-append, length-take, length-drop}
use Rattle.std.specs.List.{flat_map, AllByRecursion}
use Rattle.std.proofs.lemmas.Bool.{le-leb, lt-leb, cases_lt}
use Rattle.std.proofs.lemmas.List.{take-append-drop, append-nil}
use Rattle.std.proofs.Math.Nat.{pow-suc}
use Rattle.e57_layout.specs.declared.packet.Entry.{Entry}
use Rattle.e57_layout.specs.IndexPackets.{index_size}
use Rattle.e57_layout.specs.Written.{physical, packet_bytes, first_record, cut_runs, entry_runs, level_spelled, level_size, upper_entries, index_spelled, root_place}
use Rattle.e57_layout.proofs.Laws.Layouts.{length-index_packet}
use Rattle.e57_layout.proofs.Laws.Lists.{all-take, all-drop}

-- ---- runs of entries

cut_runs-enough : (most other : ℕ) (es : List Entry) → length es ≤ most → length es ≤ other → cut_runs most es ≡ cut_runs other es
unfolding cut_runs
cut_runs-enough zero zero es h g = refl
cut_runs-enough zero (suc other) [] h g = refl
cut_runs-enough zero (suc other) (e ∷ es) h g = absurd (omega arith)
cut_runs-enough (suc most) zero [] h g = refl
cut_runs-enough (suc most) zero (e ∷ es) h g = absurd (omega arith)
cut_runs-enough (suc most) (suc other) [] h g = refl
cut_runs-enough (suc most) (suc other) (e ∷ es) h g =
    let fewer : length (drop 2048 (e ∷ es)) ≡ suc (length es) - 2048 = length-drop 2048 (e ∷ es) in
    ap (λ later. take 2048 (e ∷ es) ∷ later) (cut_runs-enough most other (drop 2048 (e ∷ es)) (omega arith) (omega arith))

pub entry_runs-nil : entry_runs [] ≡ []
unfolding entry_runs cut_runs
entry_runs-nil = refl

-- the first run, and those of the later entries
pub entry_runs-step : (e : Entry) (es : List Entry) → entry_runs (e ∷ es) ≡ take 2048 (e ∷ es) ∷ entry_runs (drop 2048 (e ∷ es))
unfolding entry_runs cut_runs
entry_runs-step e es =
    let fewer : length (drop 2048 (e ∷ es)) ≡ suc (length es) - 2048 = length-drop 2048 (e ∷ es) in
    ap (λ later. take 2048 (e ∷ es) ∷ later) (cut_runs-enough (length es) (length (drop 2048 (e ∷ es))) (drop 2048 (e ∷ es)) (omega arith) (omega arith))

-- a run of entries of a packet
pub record IsEntryRun (run : List Entry) : Type 0 where
  pub some : 0 < length run
  pub most : length run ≤ 2048

cut_runs-are : (most : ℕ) (es : List Entry) → AllByRecursion IsEntryRun (cut_runs most es)
unfolding cut_runs
cut_runs-are zero es = tt
cut_runs-are (suc most) [] = tt
cut_runs-are (suc most) (e ∷ es) =
    let size : length (take 2048 (e ∷ es)) ≡ min 2048 (suc (length es)) = length-take 2048 (e ∷ es) in
    (record { some = omega arith; most = omega arith }, cut_runs-are most (drop 2048 (e ∷ es)))

pub entry_runs-are : (es : List Entry) → AllByRecursion IsEntryRun (entry_runs es)
unfolding entry_runs
entry_runs-are es = cut_runs-are (length es) es

-- what holds of each entry holds of each entry of the runs
cut_runs-all : (P : Entry → Type 0) (most : ℕ) (es : List Entry) → AllByRecursion P es → AllByRecursion (AllByRecursion P) (cut_runs most es)
unfolding cut_runs
cut_runs-all P zero es h = tt
cut_runs-all P (suc most) [] h = tt
cut_runs-all P (suc most) (e ∷ es) h = (all-take P 2048 (e ∷ es) h, cut_runs-all P most (drop 2048 (e ∷ es)) (all-drop P 2048 (e ∷ es) h))

pub entry_runs-all : (P : Entry → Type 0) (es : List Entry) → AllByRecursion P es → AllByRecursion (AllByRecursion P) (entry_runs es)
unfolding entry_runs
entry_runs-all P es h = cut_runs-all P (length es) es h

-- one after another they are the entries
cut_runs-joined : (most : ℕ) (es : List Entry) → length es ≤ most → flat_map (λ run. run) (cut_runs most es) ≡ es
unfolding cut_runs
cut_runs-joined zero [] h = refl
cut_runs-joined zero (e ∷ es) h = absurd (omega arith)
cut_runs-joined (suc most) [] h = refl
cut_runs-joined (suc most) (e ∷ es) h =
    let fewer : length (drop 2048 (e ∷ es)) ≡ suc (length es) - 2048 = length-drop 2048 (e ∷ es) in
    ap (λ later. take 2048 (e ∷ es) ++ later) (cut_runs-joined most (drop 2048 (e ∷ es)) (omega arith)) ∙ take-append-drop 2048 (e ∷ es)

pub entry_runs-joined : (es : List Entry) → flat_map (λ run. run) (entry_runs es) ≡ es
unfolding entry_runs
entry_runs-joined es = cut_runs-joined (length es) es (omega arith)

-- how many there are
cut_runs-count : (most : ℕ) (es : List Entry) → length es ≤ most → length (cut_runs most es) ≡ (length es + 2047) / 2048
unfolding cut_runs
cut_runs-count zero [] h = refl
cut_runs-count zero (e ∷ es) h = absurd (omega arith)
cut_runs-count (suc most) [] h = refl
cut_runs-count (suc most) (e ∷ es) h =
    let fewer : length (drop 2048 (e ∷ es)) ≡ suc (length es) - 2048 = length-drop 2048 (e ∷ es) in
    let rest : length (cut_runs most (drop 2048 (e ∷ es))) ≡ (length (drop 2048 (e ∷ es)) + 2047) / 2048 = cut_runs-count most (drop 2048 (e ∷ es)) (omega arith) in
    omega arith

pub entry_runs-count : (es : List Entry) → length (entry_runs es) ≡ (length es + 2047) / 2048
unfolding entry_runs
entry_runs-count es = cut_runs-count (length es) es (omega arith)

-- ---- the packets of a level

pub length-level_spelled : (level : ℕ) (parts : List (List Entry)) → length (level_spelled level parts) ≡ length parts
unfolding level_spelled
length-level_spelled level [] = refl
length-level_spelled level (run ∷ parts) = ap suc (length-level_spelled level parts)

pub length-upper_entries : (q : ℕ) (parts : List (List Entry)) → length (upper_entries q parts) ≡ length parts
unfolding upper_entries
length-upper_entries q [] = refl
length-upper_entries q (run ∷ parts) = ap suc (length-upper_entries (q + index_size (length run)) parts)

pub upper_entries-cons : (q : ℕ) (run : List Entry) (parts : List (List Entry)) → upper_entries q (run ∷ parts) ≡ record { first = first_record run; place = physical q } ∷ upper_entries (q + index_size (length run)) parts
unfolding upper_entries
upper_entries-cons q run parts = refl

pub level_size-cons : (level : ℕ) (run : List Entry) (parts : List (List Entry)) → level_size level (run ∷ parts) ≡ index_size (length run) + level_size level parts
unfolding level_spelled packet_bytes
level_size-cons level run parts = rw (length-append, length-index_packet) refl

-- ---- levels

-- the last level
pub index_spelled-last : (most level q : ℕ) (es : List Entry) → length (entry_runs es) ≤ 1 → index_spelled (suc most) level q es ≡ level_spelled level (entry_runs es)
unfolding index_spelled
index_spelled-last most level q es h = rw (le-leb (length (entry_runs es)) 1 h) (append-nil (level_spelled level (entry_runs es)))

-- a level with more above it
pub index_spelled-more : (most level q : ℕ) (es : List Entry) → 1 < length (entry_runs es) → index_spelled (suc most) level q es ≡ level_spelled level (entry_runs es) ++ index_spelled most (level + 1) (q + level_size level (entry_runs es)) (upper_entries q (entry_runs es))
unfolding index_spelled
index_spelled-more most level q es h = rw (lt-leb (length (entry_runs es)) 1 h) refl

pub root_place-last : (most level q : ℕ) (es : List Entry) → length (entry_runs es) ≤ 1 → root_place (suc most) level q es ≡ q
unfolding root_place
root_place-last most level q es h = rw (le-leb (length (entry_runs es)) 1 h) refl

pub root_place-more : (most level q : ℕ) (es : List Entry) → 1 < length (entry_runs es) → root_place (suc most) level q es ≡ root_place most (level + 1) (q + level_size level (entry_runs es)) (upper_entries q (entry_runs es))
unfolding root_place
root_place-more most level q es h = rw (lt-leb (length (entry_runs es)) 1 h) refl

-- where enough levels are given, more of them change nothing
pub index_spelled-enough : (most other level q : ℕ) (es : List Entry) → length es ≤ 2048 ^ suc most → length es ≤ 2048 ^ suc other → index_spelled (suc most) level q es ≡ index_spelled (suc other) level q es
index_spelled-enough zero other level q es h g =
    let count : length (entry_runs es) ≡ (length es + 2047) / 2048 = entry_runs-count es in
    let one : 2048 ^ 1 ≡ 2048 = refl in
    index_spelled-last zero level q es (omega arith) ∙ sym (index_spelled-last other level q es (omega arith))
index_spelled-enough (suc most) zero level q es h g =
    let count : length (entry_runs es) ≡ (length es + 2047) / 2048 = entry_runs-count es in
    let one : 2048 ^ 1 ≡ 2048 = refl in
    index_spelled-last (suc most) level q es (omega arith) ∙ sym (index_spelled-last zero level q es (omega arith))
index_spelled-enough (suc most) (suc other) level q es h g = ⊎_elim
    (λ few. index_spelled-last (suc most) level q es (omega arith) ∙ sym (index_spelled-last (suc other) level q es (omega arith)))
    (λ many.
    index_spelled-more (suc most) level q es many
    ∙ ap (λ later. level_spelled level (entry_runs es) ++ later) (index_spelled-enough most other (level + 1) (q + level_size level (entry_runs es)) (upper_entries q (entry_runs es)) (fewer (suc most) h) (fewer (suc other) g))
    ∙ sym (index_spelled-more (suc other) level q es many))
    (cases_le (length (entry_runs es)) 1)
  where
    fewer : (m : ℕ) → length es ≤ 2048 ^ suc m → length (upper_entries q (entry_runs es)) ≤ 2048 ^ m
    fewer m h =
        let count : length (entry_runs es) ≡ (length es + 2047) / 2048 = entry_runs-count es in
        let wide : 2048 ^ suc m ≡ 2048 ^ m * 2048 = pow-suc 2048 m in
        rw length-upper_entries (omega arith)

    cases_le : (a b : ℕ) → (a ≤ b) ⊎ (b < a)
    cases_le a b = ⊎_elim (λ l. inr l) (λ l. inl l) (cases_lt b a)
