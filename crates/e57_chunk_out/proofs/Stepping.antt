-- Laws of a writer's steps: several groups in a row, and groups that fit.
use Rattle.std.proofs.Common.{◌≡◌, ℕ, zero, suc, ◌+◌, ◌-◌, ◌*◌, ◌<◌, ◌≤◌, Bool, true, false, cond, List, [], ◌∷◌, ◌++◌, length, Option, Some, None, refl, sym, ap, subst, ◌∙◌, arith, ⊎_elim, drop, min, eq-eqb, ◌==◌}
use Rattle.std.specs.Prelude.{◌&&◌}
use Rattle.std.specs.List.{AllByRecursion}
use Rattle.std.proofs.lemmas.Bool.{cond-true, cond-false, leb-true, le-leb, cases_lt, ne_eqb}
use Rattle.std.proofs.lemmas.List.{append_assoc, append-nil, length-append, length-drop, drop-drop, take_all}
use Rattle.e57_layout.specs.Packets.{total, data_size}
use Rattle.e57_layout.specs.Values.{ItemKind, Value, IsKind}
use Rattle.e57_layout.specs.Items.{AreColumns}
use Rattle.e57_layout.specs.Packing.{first_records, later_records, join_columns, group_streams, join_streams, fits_packet, front, behind, pour, poured, chunk_groups}
use Rattle.e57_layout.specs.Steps.{Step, step, steps}
use Rattle.e57_layout.specs.Written.{Spelled, records_packet, flagged}
use Rattle.e57_layout.proofs.Laws.Layouts.{total-cons, data_size_is}
use Rattle.e57_layout.proofs.Laws.Chunks.{length-group_streams, field_bytes-append}
use Rattle.e57_layout.proofs.Laws.Packing.{total-behind, length-join_streams}
use Rattle.e57_layout.proofs.Laws.Blocks.{first_records-columns, later_records-columns}
use Rattle.e57_chunk_out.specs.Progress.{is_nil}
use Rattle.e57_chunk_out.proofs.Joins.{first-all, groups-none, groups-step, cut-joined}

-- ---- steps in a row

pub steps-append : (run : Option (List (List ℕ))) (gs hs : List (List (List ℕ))) → steps run (gs ++ hs) ≡ record { done = (steps run gs).done ++ (steps (steps run gs).run hs).done; run = (steps (steps run gs).run hs).run }
unfolding steps
steps-append run [] hs = refl
steps-append run (g ∷ gs) hs =
    ap (λ (s : Step). record { done = (step run g).done ++ s.done; run = s.run }) (steps-append (step run g).run gs hs)
    ∙ ap (λ (parts : List (List (List ℕ))). record { done = parts; run = (steps (steps (step run g).run gs).run hs).run }) (sym (append_assoc (step run g).done (steps (step run g).run gs).done (steps (steps (step run g).run gs).run hs).done))

pub flagged-append : (r : Bool) (xs ys : List (List (List ℕ))) → flagged r (xs ++ ys) ≡ flagged r xs ++ flagged (r && is_nil xs) ys
unfolding flagged
flagged-append true [] ys = refl
flagged-append false [] ys = refl
flagged-append true (x ∷ xs) ys = ap (λ (ps : List Spelled). records_packet true x ∷ ps) (flagged-append false xs ys)
flagged-append false (x ∷ xs) ys = ap (λ (ps : List Spelled). records_packet false x ∷ ps) (flagged-append false xs ys)

-- ---- a group that is poured

pour-more : (most room : ℕ) (ss : List (List ℕ)) → 0 < total ss → pour (suc most) room ss ≡ front room ss ∷ pour most room (behind room ss)
unfolding pour
pour-more most room ss g = cond-false (total ss == 0) [] (front room ss ∷ pour most room (behind room ss)) (ne_eqb (total ss) 0 (λ none. omega arith))

pub pour-none : (most room : ℕ) (ss : List (List ℕ)) → total ss ≡ 0 → pour most room ss ≡ []
unfolding pour
pour-none zero room ss none = refl
pour-none (suc most) room ss none = cond-true (total ss == 0) [] (front room ss ∷ pour most room (behind room ss)) (eq-eqb (total ss) 0 none)

pour-enough : (most other room : ℕ) (ss : List (List ℕ)) → 0 < room → total ss ≤ most → total ss ≤ other → pour most room ss ≡ pour other room ss
pour-enough zero other room ss h g l = pour-none zero room ss (omega arith) ∙ sym (pour-none other room ss (omega arith))
pour-enough (suc most) zero room ss h g l = pour-none (suc most) room ss (omega arith) ∙ sym (pour-none zero room ss (omega arith))
pour-enough (suc most) (suc other) room ss h g l = ⊎_elim
    (λ none. let nothing : total ss ≡ 0 = omega arith in pour-none (suc most) room ss nothing ∙ sym (pour-none (suc other) room ss nothing))
    (λ some.
    let left : total (behind room ss) ≡ total ss - room = total-behind room ss in
    pour-more most room ss (omega arith)
    ∙ ap (λ (later : List (List (List ℕ))). front room ss ∷ later) (pour-enough most other room (behind room ss) h (omega arith) (omega arith))
    ∙ sym (pour-more other room ss (omega arith)))
    (cases_lt (total ss) 1)

-- the next packet of it
pub pour-step : (room : ℕ) (ss : List (List ℕ)) → 0 < room → 0 < total ss → pour (total ss) room ss ≡ front room ss ∷ pour (total (behind room ss)) room (behind room ss)
pour-step room ss h g =
    let left : total (behind room ss) ≡ total ss - room = total-behind room ss in
    let one : total ss ≡ suc (total ss - 1) = omega arith in
    ap (λ n. pour n room ss) one
    ∙ pour-more (total ss - 1) room ss g
    ∙ ap (λ (later : List (List (List ℕ))). front room ss ∷ later) (pour-enough (total ss - 1) (total (behind room ss)) room (behind room ss) h (omega arith) (omega arith))

pub behind-behind : (a b : ℕ) (ss : List (List ℕ)) → behind b (behind a ss) ≡ behind (a + b) ss
unfolding behind
behind-behind a b [] = refl
behind-behind a b (s ∷ ss) =
    let left : length (drop a s) ≡ length s - a = length-drop a s in
    let rest : (a - length s) + (b - length (drop a s)) ≡ (a + b) - length s = omega arith in
    rw (drop-drop b a s, behind-behind (a - length s) (b - length (drop a s)) ss, rest) refl

pub behind-zero : (ss : List (List ℕ)) → behind 0 ss ≡ ss
unfolding behind
behind-zero [] = refl
behind-zero (s ∷ ss) =
    let none : 0 - length s ≡ 0 = omega arith in
    rw none (ap (λ (later : List (List ℕ)). s ∷ later) (behind-zero ss))

pub front-all : (room : ℕ) (ss : List (List ℕ)) → total ss ≤ room → front room ss ≡ ss
unfolding front
front-all room [] h = refl
front-all room (s ∷ ss) h =
    let parts : total (s ∷ ss) ≡ length s + total ss = total-cons s ss in
    rw (take_all room s (omega arith), front-all (room - length s) ss (omega arith)) refl

-- ---- groups that fit

pub join_streams-nil : (n : ℕ) (group : List (List ℕ)) → length group ≡ n → join_streams [] group ≡ group
unfolding join_streams
join_streams-nil n group h = refl

pub join_streams-assoc : (a b c : List (List ℕ)) → length a ≡ length b → length b ≡ length c → join_streams (join_streams a b) c ≡ join_streams a (join_streams b c)
unfolding join_streams
join_streams-assoc [] b c h g = refl
join_streams-assoc (s ∷ a) [] c h g = absurd (omega arith)
join_streams-assoc (s ∷ a) (t ∷ b) [] h g = absurd (omega arith)
join_streams-assoc (s ∷ a) (t ∷ b) (u ∷ c) h g = rw (append_assoc s t u, join_streams-assoc a b c (omega arith) (omega arith)) refl

pub total-join : (a b : List (List ℕ)) → length a ≡ length b → total (join_streams a b) ≡ total a + total b
unfolding join_streams
total-join [] [] h = omega arith
total-join [] (t ∷ b) h = absurd (omega arith)
total-join (s ∷ a) [] h = absurd (omega arith)
total-join (s ∷ a) (t ∷ b) h =
    let rest : total (join_streams a b) ≡ total a + total b = total-join a b (omega arith) in
    let both : length (s ++ t) ≡ length s + length t = length-append s t in
    let one = total-cons s a in
    let other = total-cons t b in
    let all = total-cons (s ++ t) (join_streams a b) in
    omega arith

-- the streams of a run with a group
abbrev pub joined_to : Option (List (List ℕ)) → List (List ℕ) → List (List ℕ)
joined_to None group = group
joined_to (Some run) group = join_streams run group

-- a run has as many streams
abbrev pub HasAsMany : ℕ → Option (List (List ℕ)) → Type 0
HasAsMany n None = Unit {0}
HasAsMany n (Some run) = length run ≡ n

joined_to-size : (n : ℕ) (run : Option (List (List ℕ))) (group : List (List ℕ)) → HasAsMany n run → length group ≡ n → length (joined_to run group) ≡ n
joined_to-size n None group h g = g
joined_to-size n (Some run) group h g = length-join_streams n run group h g

joined_to-join : (n : ℕ) (run : Option (List (List ℕ))) (a b : List (List ℕ)) → HasAsMany n run → length a ≡ n → length b ≡ n → joined_to run (join_streams a b) ≡ join_streams (joined_to run a) b
joined_to-join n None a b h g l = refl
joined_to-join n (Some run) a b h g l = sym (join_streams-assoc run a b (h ∙ sym g) (g ∙ sym l))

-- streams of records after whole groups
pub streams-join : (kinds : List ItemKind) (m k : ℕ) (columns more : List (List Value)) → AllByRecursion IsKind kinds → AreColumns kinds (8 * m) columns → AreColumns kinds k more → group_streams kinds (join_columns columns more) ≡ join_streams (group_streams kinds columns) (group_streams kinds more)
unfolding group_streams join_columns join_streams
streams-join [] m k columns more ok h g = refl
streams-join (kind ∷ kinds) m k [] more ok h g = absurd h
streams-join (kind ∷ kinds) m k (column ∷ columns) [] ok h g = absurd g
streams-join (kind ∷ kinds) m k (column ∷ columns) (x ∷ more) ok h g =
    rw (field_bytes-append kind column x m ok.0 h.1 h.0, streams-join kinds m k columns more ok.1 h.2 g.2) refl

-- the first group, and the others
streams-cut : (kinds : List ItemKind) (count : ℕ) (columns : List (List Value)) → AllByRecursion IsKind kinds → AreColumns kinds count columns → 8 ≤ count → group_streams kinds columns ≡ join_streams (group_streams kinds (first_records 8 columns)) (group_streams kinds (later_records 8 columns))
streams-cut kinds count columns ok h many =
    let eight : min 8 count ≡ 8 = omega arith in
    ap (group_streams kinds) (sym (cut-joined kinds count columns h))
    ∙ streams-join kinds 1 (count - 8) (first_records 8 columns) (later_records 8 columns) ok (subst (λ n. AreColumns kinds n (first_records 8 columns)) eight (first_records-columns kinds 8 count columns h)) (later_records-columns kinds 8 count columns h)

within_fits : (n : ℕ) (a b : List (List ℕ)) → length a ≡ n → length b ≡ n → fits_packet (join_streams a b) ≡ true → fits_packet a ≡ true
unfolding fits_packet
within_fits n a b h g fit =
    let all : data_size (join_streams a b) ≤ 65536 = leb-true (data_size (join_streams a b)) 65536 fit in
    let size : data_size (join_streams a b) ≡ 6 + 2 * length (join_streams a b) + total (join_streams a b) = data_size_is (join_streams a b) in
    let part : data_size a ≡ 6 + 2 * length a + total a = data_size_is a in
    let count : length (join_streams a b) ≡ n = length-join_streams n a b h g in
    let sum : total (join_streams a b) ≡ total a + total b = total-join a b (h ∙ sym g) in
    le-leb (data_size a) 65536 (omega arith)

-- a group that fits
pub step-fitting : (run : Option (List (List ℕ))) (group : List (List ℕ)) → fits_packet (joined_to run group) ≡ true → step run group ≡ record { done = []; run = Some (joined_to run group) }
unfolding step
step-fitting None group fit = cond-true (fits_packet group) (record { done = []; run = Some group }) (record { done = poured group; run = None }) fit
step-fitting (Some run) group fit =
    cond-true (fits_packet (join_streams run group)) (record { done = []; run = Some (join_streams run group) }) (cond (fits_packet group) (record { done = run ∷ []; run = Some group }) (record { done = run ∷ poured group; run = None })) fit

pub steps-cons : (run : Option (List (List ℕ))) (g : List (List ℕ)) (gs : List (List (List ℕ))) → steps run (g ∷ gs) ≡ record { done = (step run g).done ++ (steps (step run g).run gs).done; run = (steps (step run g).run gs).run }
unfolding steps
steps-cons run g gs = refl

pub steps-none : (run : Option (List (List ℕ))) → steps run [] ≡ record { done = []; run = run }
unfolding steps
steps-none run = refl

-- groups that fit together join the run
pub steps-fitting : (most : ℕ) (kinds : List ItemKind) (count : ℕ) (columns : List (List Value)) (run : Option (List (List ℕ))) → count ≤ most → 0 < count → AllByRecursion IsKind kinds → AreColumns kinds count columns → HasAsMany (length kinds) run
    → fits_packet (joined_to run (group_streams kinds columns)) ≡ true → steps run (chunk_groups kinds (record { count = count; columns = columns })) ≡ record { done = []; run = Some (joined_to run (group_streams kinds columns)) }
steps-fitting zero kinds count columns run h some ok are has fit = absurd (omega arith)
steps-fitting (suc most) kinds count columns run h some ok are has fit = ⊎_elim
    (λ few.
    let all : first_records 8 columns ≡ columns = first-all kinds count 8 columns are (omega arith) in
    let none : count - 8 ≡ 0 = omega arith in
    ap (steps run) (groups-step kinds count columns some)
    ∙ steps-cons run (group_streams kinds (first_records 8 columns)) (chunk_groups kinds (record { count = count - 8; columns = later_records 8 columns }))
    ∙ rw (all, step-fitting run (group_streams kinds columns) fit, none, groups-none kinds (later_records 8 columns), steps-none (Some (joined_to run (group_streams kinds columns)))) refl)
    (λ many.
    let first : List (List ℕ) = group_streams kinds (first_records 8 columns) in
    let rest : List (List ℕ) = group_streams kinds (later_records 8 columns) in
    let first_size : length first ≡ length kinds = length-group_streams kinds (first_records 8 columns) in
    let rest_size : length rest ≡ length kinds = length-group_streams kinds (later_records 8 columns) in
    let cut : group_streams kinds columns ≡ join_streams first rest = streams-cut kinds count columns ok are (omega arith) in
    let whole : joined_to run (group_streams kinds columns) ≡ join_streams (joined_to run first) rest = ap (joined_to run) cut ∙ joined_to-join (length kinds) run first rest has first_size rest_size in
    let fit_all : fits_packet (join_streams (joined_to run first) rest) ≡ true = subst (λ (ss : List (List ℕ)). fits_packet ss ≡ true) whole fit in
    let size : length (joined_to run first) ≡ length kinds = joined_to-size (length kinds) run first has first_size in
    let fit_first : fits_packet (joined_to run first) ≡ true = within_fits (length kinds) (joined_to run first) rest size rest_size fit_all in
    let later = steps-fitting most kinds (count - 8) (later_records 8 columns) (Some (joined_to run first)) (omega arith) (omega arith) ok (later_records-columns kinds 8 count columns are) size fit_all in
    ap (steps run) (groups-step kinds count columns some)
    ∙ steps-cons run first (chunk_groups kinds (record { count = count - 8; columns = later_records 8 columns }))
    ∙ rw (step-fitting run first fit_first, later, whole) refl)
    (cases_lt count 9)

-- where the first group doesn't join the run, the run is a packet
step-flush : (run group : List (List ℕ)) → fits_packet (join_streams run group) ≡ false → step (Some run) group ≡ record { done = run ∷ (step None group).done; run = (step None group).run }
unfolding step
step-flush run group over =
    cond-false (fits_packet (join_streams run group)) (record { done = []; run = Some (join_streams run group) }) (cond (fits_packet group) (record { done = run ∷ []; run = Some group }) (record { done = run ∷ poured group; run = None })) over
    ∙ by_test (fits_packet group)
  where
    after : Bool → Step
    after b = cond b (record { done = []; run = Some group }) (record { done = poured group; run = None })

    by_test : (b : Bool) → ◌≡◌ {A = Step} (cond b (record { done = run ∷ []; run = Some group }) (record { done = run ∷ poured group; run = None })) (record { done = run ∷ (after b).done; run = (after b).run })
    by_test true = refl
    by_test false = refl

pub steps-flush : (kinds : List ItemKind) (count : ℕ) (columns : List (List Value)) (run : List (List ℕ)) → 0 < count → fits_packet (join_streams run (group_streams kinds (first_records 8 columns))) ≡ false
    → steps (Some run) (chunk_groups kinds (record { count = count; columns = columns })) ≡ record { done = run ∷ (steps None (chunk_groups kinds (record { count = count; columns = columns }))).done; run = (steps None (chunk_groups kinds (record { count = count; columns = columns }))).run }
steps-flush kinds count columns run some over =
    rw (groups-step kinds count columns some)
    (steps-cons (Some run) (group_streams kinds (first_records 8 columns)) (chunk_groups kinds (record { count = count - 8; columns = later_records 8 columns }))
    ∙ rw (step-flush run (group_streams kinds (first_records 8 columns)) over, steps-cons None (group_streams kinds (first_records 8 columns)) (chunk_groups kinds (record { count = count - 8; columns = later_records 8 columns }))) refl)

-- a group that is larger than a packet
step-poured : (group : List (List ℕ)) → fits_packet group ≡ false → step None group ≡ record { done = poured group; run = None }
unfolding step
step-poured group over = cond-false (fits_packet group) (record { done = []; run = Some group }) (record { done = poured group; run = None }) over

pub steps-poured : (kinds : List ItemKind) (count : ℕ) (columns : List (List Value)) → 0 < count → count ≤ 8 → AreColumns kinds count columns → fits_packet (group_streams kinds columns) ≡ false
    → steps None (chunk_groups kinds (record { count = count; columns = columns })) ≡ record { done = poured (group_streams kinds columns); run = None }
steps-poured kinds count columns some few are over =
    let all : first_records 8 columns ≡ columns = first-all kinds count 8 columns are few in
    let none : count - 8 ≡ 0 = omega arith in
    ap (steps None) (groups-step kinds count columns some)
    ∙ steps-cons None (group_streams kinds (first_records 8 columns)) (chunk_groups kinds (record { count = count - 8; columns = later_records 8 columns }))
    ∙ rw (all, step-poured (group_streams kinds columns) over, none, groups-none kinds (later_records 8 columns), steps-none None, append-nil (poured (group_streams kinds columns))) refl
