-- The chunk starts that are judged as data packets come are those of the chunks.
use Rattle.std.specs.Prelude.{◌≡◌, ℕ, zero, suc, ◌+◌, ◌==◌, ◌||◌, not, nat_lt, Bool, true, false, if◌then◌else◌, List, [], ◌∷◌, ◌++◌, length, drop, get_or, slice_get, Option, Some, None}
use Rattle.std.specs.List.{onto_first}
use Rattle.std.specs.Option.{option_or}
use Rattle.std.proofs.Common.{refl, sym, ap, ◌∙◌, arith, ⊎_elim, length-append, append_assoc}
use Rattle.std.proofs.lemmas.Bool.{cases_Bool, ne_eqb, or_from}
use Rattle.std.proofs.lemmas.List.{append-nil, drop-drop}
use Rattle.e57_base.specs.Fault.{fault}
use Rattle.e57_base.specs.declared.fault.Fault.{Fault}
use Rattle.e57_base.specs.declared.kind.Kind.TheVariants.{RestartUnindexed}
use Rattle.e57_layout.specs.declared.section.Section.{Section}
use Rattle.e57_layout.specs.declared.packet.Entry.{Entry}
use Rattle.e57_layout.specs.declared.field.Fixed.{Fixed}
use Rattle.e57_cloud.specs.Walk.{Packet}
use Rattle.e57_cloud.specs.Chunks.{cut, by_chunk, stream_of, starts_fault, restarts_fault, unindexed_fault, entry_left, float_items as items_of}
use Rattle.e57_cloud.proofs.Laws.Chunks.{cut-restart}
use Rattle.e57_cloud.proofs.Laws.Pieces.{cut-on, cut-none, by_chunk-is, by_chunk-none}
use Rattle.e57_cloud.proofs.Laws.Fronts.{stream_of-append}
use Rattle.e57_check.specs.Starts.{by_starts, IsWidth, AreStarts, field_bytes, float_bytes, float_items, none_came, entry_start_fault, left_entry_fault, arrived, left_fault, rest_fault}
use Rattle.e57_check.specs.declared.starts.Starts.{Starts}
use Rattle.e57_check.specs.declared.starts.Starts.TheVariants.{Indexed, Counted}
use Rattle.e57_check.specs.declared.starts.Came.{Came}
use Rattle.e57_cloud.proofs.Laws.Streams.{stream-one}
use Rattle.e57_base.proofs.Options.{option_or_assoc}

-- ---- pieces

drop-onto : (p : Packet) (pieces : List (List Packet)) → drop 1 (onto_first p pieces) ≡ drop 1 pieces
drop-onto p [] = refl
drop-onto p (piece ∷ pieces) = refl

-- the first piece
head_of : List (List Packet) → List Packet
head_of [] = []
head_of (piece ∷ pieces) = piece

or-nothing : (a : Option Fault) → option_or a None ≡ a
or-nothing None = refl
or-nothing (Some x) = refl

came_as : ℕ → ℕ → ℕ → Option Fault → Came
came_as starts first bytes found = record { starts = starts; first = first; bytes = bytes; found = found }

pub rest-none : (s : Section) (starts : Starts) (came : Came) → rest_fault s starts came [] ≡ left_fault s starts came
unfolding rest_fault
rest-none s starts came = refl

pub rest-next : (s : Section) (starts : Starts) (came : Came) (p : Packet) (ps : List Packet) → rest_fault s starts came (p ∷ ps) ≡ rest_fault s starts (arrived s starts came p.place p.restart (float_bytes starts p.streams)) ps
unfolding rest_fault
rest-next s starts came p ps = refl

later-start : (j : ℕ) → (j + 1 == 0) ≡ false
later-start j = ne_eqb (j + 1) 0 (λ same. omega (arith, same))

-- ---- by entries

-- the first of some entries
first_entry : List Entry → Option Entry
first_entry [] = None
first_entry (e ∷ es) = Some e

first-entry : (es : List Entry) (j : ℕ) → slice_get es j ≡ first_entry (drop j es)
unfolding first_entry
first-entry [] zero = refl
first-entry [] (suc j) = refl
first-entry (e ∷ es) zero = refl
first-entry (e ∷ es) (suc j) = first-entry es j

left-entry : (s : Section) (es : List Entry) → left_entry_fault s (first_entry es) ≡ entry_left s es
unfolding first_entry
left-entry s [] = refl
left-entry s (e ∷ es) = refl

starts-none : (s : Section) (j : ℕ) (es : List Entry) → starts_fault s j es [] ≡ entry_left s es
unfolding starts_fault
starts-none s j es = refl

starts-empty : (s : Section) (j : ℕ) (es : List Entry) → starts_fault s j es ([] ∷ []) ≡ entry_left s es
unfolding starts_fault
starts-empty s j es = refl

starts-onto : (s : Section) (j : ℕ) (es : List Entry) (p : Packet) (pieces : List (List Packet)) → starts_fault s j es (onto_first p pieces) ≡ option_or (entry_start_fault s j (first_entry es) p.place) (starts_fault s (j + 1) (drop 1 es) (drop 1 pieces))
unfolding starts_fault first_entry
starts-onto s j [] p [] = refl
starts-onto s j [] p (piece ∷ pieces) = refl
starts-onto s j (e ∷ es) p [] = refl
starts-onto s j (e ∷ es) p (piece ∷ pieces) = refl

indexed-begins : (s : Section) (es : List Entry) (j first bytes q : ℕ) (restart : Bool) (found : Option Fault) → (j == 0 || restart) ≡ true
    → arrived s (Indexed es) (came_as j first bytes found) q restart 0 ≡ came_as (j + 1) (first + 0) 0 (option_or found (entry_start_fault s j (slice_get es j) q))
unfolding came_as
indexed-begins s es j first bytes q restart found is = rw is refl

indexed-goes_on : (s : Section) (es : List Entry) (j first bytes q : ℕ) (restart : Bool) (found : Option Fault) → (j == 0 || restart) ≡ false → arrived s (Indexed es) (came_as j first bytes found) q restart 0 ≡ came_as j first (bytes + 0) found
unfolding came_as
indexed-goes_on s es j first bytes q restart found is = rw is refl

or-start : (a b : Bool) → a ≡ false → b ≡ true → (a || b) ≡ true
or-start a b none is = rw (none, is) refl

indexed-left : (s : Section) (es : List Entry) (j first bytes : ℕ) (found : Option Fault) → left_fault s (Indexed es) (came_as j first bytes found) ≡ option_or found (entry_left s (drop j es))
unfolding came_as
indexed-left s es j first bytes found = ap (option_or found) (ap (left_entry_fault s) (first-entry es j) ∙ left-entry s (drop j es))

indexed-later : (s : Section) (es : List Entry) (j first bytes : ℕ) (found : Option Fault) (ds : List Packet) → (j == 0) ≡ false
    → rest_fault s (Indexed es) (came_as j first bytes found) ds ≡ option_or found (starts_fault s j (drop j es) (drop 1 (cut ds)))
indexed-later s es j first bytes found [] some =
    rest-none s (Indexed es) (came_as j first bytes found)
    ∙ indexed-left s es j first bytes found
    ∙ ap (option_or found) (sym (starts-none s j (drop j es)) ∙ ap (λ (pieces : List (List Packet)). starts_fault s j (drop j es) (drop 1 pieces)) (sym cut-none))
indexed-later s es j first bytes found (p ∷ ps) some =
    ⊎_elim
    (λ (restart : p.restart ≡ true).
    let here = entry_start_fault s j (slice_get es j) p.place in
    let named : here ≡ entry_start_fault s j (first_entry (drop j es)) p.place = ap (λ (e : Option Entry). entry_start_fault s j e p.place) (first-entry es j) in
    let later = starts_fault s (j + 1) (drop (j + 1) es) (drop 1 (cut ps)) in
    rest-next s (Indexed es) (came_as j first bytes found) p ps
    ∙ ap (λ (came : Came). rest_fault s (Indexed es) came ps) (indexed-begins s es j first bytes p.place p.restart found (or-start (j == 0) p.restart some restart))
    ∙ indexed-later s es (j + 1) (first + 0) 0 (option_or found here) ps (later-start j)
    ∙ option_or_assoc found here later
    ∙ ap (λ (rest : List Entry). option_or found (option_or here (starts_fault s (j + 1) rest (drop 1 (cut ps))))) (sym (drop-drop 1 j es))
    ∙ ap (λ (o : Option Fault). option_or found (option_or o (starts_fault s (j + 1) (drop 1 (drop j es)) (drop 1 (cut ps))))) named
    ∙ ap (option_or found) (sym (starts-onto s j (drop j es) p (cut ps)))
    ∙ ap (λ (pieces : List (List Packet)). option_or found (starts_fault s j (drop j es) (drop 1 pieces))) (sym (cut-restart p ps restart)))
    (λ (same : p.restart ≡ false).
    rest-next s (Indexed es) (came_as j first bytes found) p ps
    ∙ ap (λ (came : Came). rest_fault s (Indexed es) came ps) (indexed-goes_on s es j first bytes p.place p.restart found (or_from (j == 0) p.restart some same))
    ∙ indexed-later s es j first (bytes + 0) found ps some
    ∙ ap (λ (pieces : List (List Packet)). option_or found (starts_fault s j (drop j es) pieces)) (sym (drop-onto p (cut ps)))
    ∙ ap (λ (pieces : List (List Packet)). option_or found (starts_fault s j (drop j es) (drop 1 pieces))) (sym (cut-on p ps same)))
    (cases_Bool p.restart)

indexed-all : (s : Section) (es : List Entry) (ds : List Packet) → rest_fault s (Indexed es) none_came ds ≡ starts_fault s 0 es (by_chunk ds)
unfolding came_as
indexed-all s es [] = rest-none s (Indexed es) none_came ∙ indexed-left s es 0 0 0 None ∙ sym (starts-empty s 0 es) ∙ ap (starts_fault s 0 es) (sym by_chunk-none)
indexed-all s es (p ∷ ps) =
    rest-next s (Indexed es) none_came p ps
    ∙ ap (λ (came : Came). rest_fault s (Indexed es) came ps) (indexed-begins s es 0 0 0 p.place p.restart None refl)
    ∙ indexed-later s es (0 + 1) (0 + 0) 0 (entry_start_fault s 0 (slice_get es 0) p.place) ps refl
    ∙ ap (λ (e : Option Entry). option_or (entry_start_fault s 0 e p.place) (starts_fault s (0 + 1) (drop (0 + 1) es) (drop 1 (cut ps)))) (first-entry es 0)
    ∙ sym (starts-onto s 0 es p (cut ps))
    ∙ ap (starts_fault s 0 es) (sym (by_chunk-is p ps))

-- ---- by the items of the first Float field

-- how many bytes it has over packets
unfoldable pub bytes_over : Option Fixed → List Packet → ℕ
bytes_over None packets = 0
bytes_over (Some fixed) packets = length (stream_of fixed.field packets)

items-over : (fixed : Option Fixed) (packets : List Packet) → items_of fixed packets ≡ float_items fixed (bytes_over fixed packets)
unfolding bytes_over
items-over None packets = refl
items-over (Some fixed) packets = refl

bytes-one : (fixed : Option Fixed) (p : Packet) → bytes_over fixed (p ∷ []) ≡ field_bytes fixed p.streams
unfolding bytes_over
bytes-one None p = refl
bytes-one (Some fixed) p = ap (λ (l : List ℕ). length l) (stream-one fixed.field p)

bytes-more : (fixed : Option Fixed) (packets : List Packet) (p : Packet) → bytes_over fixed (packets ++ p ∷ []) ≡ bytes_over fixed packets + field_bytes fixed p.streams
unfolding bytes_over
bytes-more None packets p = refl
bytes-more (Some fixed) packets p =
    ap (λ (l : List ℕ). length l) (stream_of-append fixed.field packets (p ∷ []) ∙ ap (λ (l : List ℕ). stream_of fixed.field packets ++ l) (stream-one fixed.field p))
    ∙ length-append (stream_of fixed.field packets) (get_or p.streams fixed.field [])

-- one chunk start, after a chunk with so many items
restarts_step : Section → ℕ → ℕ → ℕ → Option Fault → Option Fault
restarts_step s first n q later = if n == 0 || not (nat_lt (first + n) s.count) then Some (fault RestartUnindexed s.node q) else later

restarts-none : (s : Section) (fixed : Option Fixed) (first : ℕ) (chunk : List Packet) → restarts_fault s fixed first chunk [] ≡ None
unfolding restarts_fault
restarts-none s fixed first chunk = refl

restarts-onto : (s : Section) (fixed : Option Fixed) (first : ℕ) (chunk : List Packet) (p : Packet) (pieces : List (List Packet))
    → restarts_fault s fixed first chunk (onto_first p pieces) ≡ restarts_step s first (items_of fixed chunk) p.place (restarts_fault s fixed (first + items_of fixed chunk) (p ∷ head_of pieces) (drop 1 pieces))
unfolding restarts_fault restarts_step head_of
restarts-onto s fixed first chunk p [] = refl
restarts-onto s fixed first chunk p (piece ∷ pieces) = refl

head-onto : (p : Packet) (pieces : List (List Packet)) → head_of (onto_first p pieces) ≡ p ∷ head_of pieces
unfolding head_of
head-onto p [] = refl
head-onto p (piece ∷ pieces) = refl

counted-begins : (s : Section) (fixed : Option Fixed) (j first bytes q n : ℕ) (restart : Bool) (found : Option Fault) → (j == 0) ≡ false → restart ≡ true
    → arrived s (Counted fixed) (came_as j first bytes found) q restart n ≡ came_as (j + 1) (first + float_items fixed bytes) n (option_or found (restarts_step s first (float_items fixed bytes) q None))
unfolding came_as restarts_step
counted-begins s fixed j first bytes q n restart found some is = rw (some, is) refl

counted-first : (s : Section) (fixed : Option Fixed) (q n : ℕ) (restart : Bool) → arrived s (Counted fixed) none_came q restart n ≡ came_as (0 + 1) (0 + float_items fixed 0) n None
unfolding came_as
counted-first s fixed q n restart = refl

counted-goes_on : (s : Section) (fixed : Option Fixed) (j first bytes q n : ℕ) (restart : Bool) (found : Option Fault) → (j == 0 || restart) ≡ false → arrived s (Counted fixed) (came_as j first bytes found) q restart n ≡ came_as j first (bytes + n) found
unfolding came_as
counted-goes_on s fixed j first bytes q n restart found is = rw is refl

counted-left : (s : Section) (fixed : Option Fixed) (j first bytes : ℕ) (found : Option Fault) → left_fault s (Counted fixed) (came_as j first bytes found) ≡ found
unfolding came_as
counted-left s fixed j first bytes found = refl

step-or : (s : Section) (first n q : ℕ) (found later : Option Fault) → option_or (option_or found (restarts_step s first n q None)) later ≡ option_or found (restarts_step s first n q later)
unfolding restarts_step
step-or s first n q found later = by_test (n == 0 || not (nat_lt (first + n) s.count)) (fault RestartUnindexed s.node q) found
  where
    by_test : (b : Bool) (f : Fault) (found : Option Fault) → option_or (option_or found (if b then Some f else None)) later ≡ option_or found (if b then Some f else later)
    by_test true f None = refl
    by_test false f None = refl
    by_test b f (Some x) = refl

-- after the chunk's packets that came
counted-later : (s : Section) (fixed : Option Fixed) (j first : ℕ) (chunk : List Packet) (found : Option Fault) (ds : List Packet) → (j == 0) ≡ false
    → rest_fault s (Counted fixed) (came_as j first (bytes_over fixed chunk) found) ds ≡ option_or found (restarts_fault s fixed first (chunk ++ head_of (cut ds)) (drop 1 (cut ds)))
unfolding head_of
counted-later s fixed j first chunk found [] some =
    rest-none s (Counted fixed) (came_as j first (bytes_over fixed chunk) found)
    ∙ counted-left s fixed j first (bytes_over fixed chunk) found
    ∙ sym (or-nothing found)
    ∙ ap (option_or found) (sym (restarts-none s fixed first (chunk ++ [])) ∙ ap (λ (pieces : List (List Packet)). restarts_fault s fixed first (chunk ++ head_of pieces) (drop 1 pieces)) (sym cut-none))
counted-later s fixed j first chunk found (p ∷ ps) some =
    ⊎_elim
    (λ (restart : p.restart ≡ true).
    let n = float_items fixed (bytes_over fixed chunk) in
    let known : n ≡ items_of fixed (chunk ++ []) = sym (items-over fixed chunk) ∙ ap (items_of fixed) (sym (append-nil chunk)) in
    rest-next s (Counted fixed) (came_as j first (bytes_over fixed chunk) found) p ps
    ∙ ap (λ (came : Came). rest_fault s (Counted fixed) came ps) (counted-begins s fixed j first (bytes_over fixed chunk) p.place (field_bytes fixed p.streams) p.restart found some restart)
    ∙ ap (λ (b : ℕ). rest_fault s (Counted fixed) (came_as (j + 1) (first + n) b (option_or found (restarts_step s first n p.place None))) ps) (sym (bytes-one fixed p))
    ∙ counted-later s fixed (j + 1) (first + n) (p ∷ []) (option_or found (restarts_step s first n p.place None)) ps (later-start j)
    ∙ step-or s first n p.place found (restarts_fault s fixed (first + n) (p ∷ head_of (cut ps)) (drop 1 (cut ps)))
    ∙ ap (λ (m : ℕ). option_or found (restarts_step s first m p.place (restarts_fault s fixed (first + m) (p ∷ head_of (cut ps)) (drop 1 (cut ps))))) known
    ∙ ap (option_or found) (sym (restarts-onto s fixed first (chunk ++ []) p (cut ps)))
    ∙ ap (λ (pieces : List (List Packet)). option_or found (restarts_fault s fixed first (chunk ++ head_of pieces) (drop 1 pieces))) (sym (cut-restart p ps restart)))
    (λ (same : p.restart ≡ false).
    let joined : (chunk ++ p ∷ []) ++ head_of (cut ps) ≡ chunk ++ head_of (onto_first p (cut ps)) = append_assoc chunk (p ∷ []) (head_of (cut ps)) ∙ ap (λ (l : List Packet). chunk ++ l) (sym (head-onto p (cut ps))) in
    rest-next s (Counted fixed) (came_as j first (bytes_over fixed chunk) found) p ps
    ∙ ap (λ (came : Came). rest_fault s (Counted fixed) came ps) (counted-goes_on s fixed j first (bytes_over fixed chunk) p.place (field_bytes fixed p.streams) p.restart found (or_from (j == 0) p.restart some same))
    ∙ ap (λ (b : ℕ). rest_fault s (Counted fixed) (came_as j first b found) ps) (sym (bytes-more fixed chunk p))
    ∙ counted-later s fixed j first (chunk ++ p ∷ []) found ps some
    ∙ ap (λ (l : List Packet). option_or found (restarts_fault s fixed first l (drop 1 (cut ps)))) joined
    ∙ ap (λ (pieces : List (List Packet)). option_or found (restarts_fault s fixed first (chunk ++ head_of (onto_first p (cut ps))) pieces)) (sym (drop-onto p (cut ps)))
    ∙ ap (λ (pieces : List (List Packet)). option_or found (restarts_fault s fixed first (chunk ++ head_of pieces) (drop 1 pieces))) (sym (cut-on p ps same)))
    (cases_Bool p.restart)

no-items : (fixed : Option Fixed) → IsWidth fixed → float_items fixed 0 ≡ 0
no-items None width = refl
no-items (Some fixed) width = ⊎_elim (λ (four : fixed.bytes ≡ 4). rw four refl) (λ (eight : fixed.bytes ≡ 8). rw eight refl) width

unindexed-none : (s : Section) (fixed : Option Fixed) → unindexed_fault s fixed ([] ∷ []) ≡ None
unfolding restarts_fault
unindexed-none s fixed = refl

unindexed-onto : (s : Section) (fixed : Option Fixed) (p : Packet) (pieces : List (List Packet)) → unindexed_fault s fixed (onto_first p pieces) ≡ restarts_fault s fixed 0 (p ∷ head_of pieces) (drop 1 pieces)
unfolding head_of
unindexed-onto s fixed p [] = refl
unindexed-onto s fixed p (piece ∷ pieces) = refl

counted-all : (s : Section) (fixed : Option Fixed) (ds : List Packet) → IsWidth fixed → rest_fault s (Counted fixed) none_came ds ≡ unindexed_fault s fixed (by_chunk ds)
counted-all s fixed [] width = rest-none s (Counted fixed) none_came ∙ sym (unindexed-none s fixed) ∙ ap (unindexed_fault s fixed) (sym by_chunk-none)
counted-all s fixed (p ∷ ps) width =
    rest-next s (Counted fixed) none_came p ps
    ∙ ap (λ (came : Came). rest_fault s (Counted fixed) came ps) (counted-first s fixed p.place (field_bytes fixed p.streams) p.restart)
    ∙ ap (λ (n : ℕ). rest_fault s (Counted fixed) (came_as (0 + 1) (0 + n) (field_bytes fixed p.streams) None) ps) (no-items fixed width)
    ∙ ap (λ (b : ℕ). rest_fault s (Counted fixed) (came_as (0 + 1) (0 + 0) b None) ps) (sym (bytes-one fixed p))
    ∙ counted-later s fixed (0 + 1) (0 + 0) (p ∷ []) None ps refl
    ∙ sym (unindexed-onto s fixed p (cut ps))
    ∙ ap (unindexed_fault s fixed) (sym (by_chunk-is p ps))

-- The chunk starts that are judged one after another from the first data packet on are those of the chunks.
pub starts-all : (s : Section) (starts : Starts) (ds : List Packet) → AreStarts s starts → rest_fault s starts none_came ds ≡ by_starts s starts (by_chunk ds)
starts-all s (Indexed es) ds are = indexed-all s es ds
starts-all s (Counted fixed) ds are = counted-all s fixed ds are.1
