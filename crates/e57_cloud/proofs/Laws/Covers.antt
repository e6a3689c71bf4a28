-- Laws of the search for a record chunk after chunk: its fuel is enough, and one step of it.
use Rattle.std.specs.Prelude.{◌≡◌, ℕ, zero, suc, ◌+◌, ◌-◌, ◌<◌, ◌≤◌, nat_lt, true, false, List, [], ◌∷◌, length, drop, Option, Some, None, Result}
use Rattle.std.specs.List.{onto_first}
use Rattle.std.proofs.Common.{refl, sym, ap, ◌∙◌, arith, ⊎_elim}
use Rattle.std.proofs.lemmas.Bool.{cases_lt, cases_Bool}
use Rattle.std.proofs.lemmas.Option.{same_Some}
use Rattle.e57_base.specs.declared.fault.Fault.{Fault}
use Rattle.e57_page.specs.File.{logical}
use Rattle.e57_layout.specs.Packets.{length_at}
use Rattle.e57_layout.specs.declared.field.Fixed.{Fixed}
use Rattle.e57_layout.specs.declared.section.Section.{Section}
use Rattle.e57_cloud.specs.Walk.{Packet, packet_at, packet_fault, Walk, onward, walk, walk_from, IsFront}
use Rattle.e57_cloud.specs.Chunks.{data_packets, cut, by_chunk, start_of, float_items}
use Rattle.e57_cloud.specs.PathItem.{ChunkAt, stretch_of, stretch, covered, cover, cover_from}
use Rattle.e57_cloud.proofs.Laws.Walks.{walk-end, walk-step, length_at-some}
use Rattle.e57_cloud.proofs.Laws.Chunks.{cut-restart}
use Rattle.e57_cloud.proofs.Laws.Pieces.{data-yes, data-other, cut-on, by_chunk-is, by_chunk-none, cut-none, data-none, packet-place, start_of_first, onto-start, onto-rest}
use Rattle.e57_cloud.proofs.Laws.Fronts.{walk_from-end}
use Rattle.e57_cloud.proofs.Laws.Reached.{cover-last}

-- ---- a later chunk starts later

onward-front : (file : List ℕ) (s : Section) (q : ℕ) (found : Option Fault) (rest : Walk) → q + 4 ≤ s.end → packet_fault file s q ≡ found → ((to : ℕ) × IsFront file s (q + length_at (logical file) q) rest.packets to)
    → (to : ℕ) × IsFront file s q (onward found (packet_at (logical file) q) rest).packets to
unfolding IsFront
onward-front file s q None rest there none front = (front.0, (there, none, refl, front.1))
onward-front file s q (Some x) rest there none front = (q, refl)

-- the packets of a walk stand one after another
pub walk-front : (file : List ℕ) (s : Section) (fuel q : ℕ) → s.end - q ≤ fuel → (to : ℕ) × IsFront file s q (walk file s fuel q).packets to
unfolding IsFront walk
walk-front file s zero q enough = (q, refl)
walk-front file s (suc fuel) q enough =
    let some : 0 < length_at (logical file) q = length_at-some (logical file) q in
    ⊎_elim
    (λ (over : s.end < q + 4). rw (walk-end file s (suc fuel) q over) (q, refl))
    (λ (there : q + 4 ≤ s.end).
    let rest = walk-front file s fuel (q + length_at (logical file) q) (omega arith) in
    rw (walk-step file s fuel q there) (onward-front file s q (packet_fault file s q) (walk file s fuel (q + length_at (logical file) q)) there refl rest))
    (cases_lt s.end (q + 4))

two-length : (front next : List Packet) (more : List (List Packet)) → [] ∷ [] ≡ front ∷ next ∷ more → ⊥
two-length front next more same = let count : 1 ≡ suc (suc (length more)) = ap (λ (all : List (List Packet)). length all) same in omega arith

front-cut : (file : List ℕ) (s : Section) (q to : ℕ) (packets front next : List Packet) (more : List (List Packet)) → IsFront file s q packets to → cut (data_packets packets) ≡ front ∷ next ∷ more → q ≤ start_of next
unfolding IsFront start_of_first
front-cut file s q to [] front next more stand are = absurd (two-length front next more (sym cut-none ∙ ap cut (sym data-none) ∙ are))
front-cut file s q to (x ∷ xs) front next more stand are =
    ⊎_elim
    (λ (is : x.is_data ≡ true).
    let cuts : cut (x ∷ data_packets xs) ≡ front ∷ next ∷ more = ap cut (sym (data-yes x xs is)) ∙ are in
    ⊎_elim
    (λ (restart : x.restart ≡ true).
    let begins : onto_first x (cut (data_packets xs)) ≡ next ∷ more = ap (λ (all : List (List Packet)). drop 1 all) (sym (cut-restart x (data_packets xs) restart) ∙ cuts) in
    let place : start_of next ≡ q = sym (ap start_of_first begins) ∙ onto-start x (cut (data_packets xs)) ∙ ap (λ (packet : Packet). packet.place) stand.2 ∙ packet-place (logical file) q in
    omega arith)
    (λ (same : x.restart ≡ false).
    let rest = onto-rest x (cut (data_packets xs)) front next more (sym (cut-on x (data_packets xs) same) ∙ cuts) in
    let later = front-cut file s (q + length_at (logical file) q) to xs rest.0 next more stand.3 rest.1 in
    omega arith)
    (cases_Bool x.restart))
    (λ (other : x.is_data ≡ false).
    let later = front-cut file s (q + length_at (logical file) q) to xs front next more stand.3 (ap cut (sym (data-other x xs other)) ∙ are) in
    omega arith)
    (cases_Bool x.is_data)

front-second : (file : List ℕ) (s : Section) (q to : ℕ) (packets chunk next : List Packet) (more : List (List Packet)) → IsFront file s q packets to → by_chunk (data_packets packets) ≡ chunk ∷ next ∷ more → q < start_of next
unfolding IsFront
front-second file s q to [] chunk next more stand are = absurd (two-length chunk next more (sym by_chunk-none ∙ ap by_chunk (sym data-none) ∙ are))
front-second file s q to (x ∷ xs) chunk next more stand are =
    let some : 0 < length_at (logical file) q = length_at-some (logical file) q in
    ⊎_elim
    (λ (is : x.is_data ≡ true).
    let rest = onto-rest x (cut (data_packets xs)) chunk next more (sym (by_chunk-is x (data_packets xs)) ∙ ap by_chunk (sym (data-yes x xs is)) ∙ are) in
    let later = front-cut file s (q + length_at (logical file) q) to xs rest.0 next more stand.3 rest.1 in
    omega arith)
    (λ (other : x.is_data ≡ false).
    let later = front-second file s (q + length_at (logical file) q) to xs chunk next more stand.3 (ap by_chunk (sym (data-other x xs other)) ∙ are) in
    omega arith)
    (cases_Bool x.is_data)

pieces-after : (file : List ℕ) (s : Section) (q to n : ℕ) (packets : List Packet) (found : Option Fault) (pieces : List (List Packet)) → IsFront file s q packets to → by_chunk (data_packets packets) ≡ pieces → (stretch_of found pieces).next ≡ Some n → q < n
pieces-after file s q to n packets found [] stand are next = cc
pieces-after file s q to n packets found (chunk ∷ []) stand are next = cc
pieces-after file s q to n packets found (chunk ∷ later ∷ more) stand are next =
    let place : start_of later ≡ n = same_Some (start_of later) n next in
    let after = front-second file s q to packets chunk later more stand are in
    omega arith

-- the start of the next chunk lies after the place where the walk began
pub next-after : (file : List ℕ) (s : Section) (q n : ℕ) → (stretch file s q).next ≡ Some n → q < n
unfolding stretch walk_from
next-after file s q n next =
    let front = walk-front file s (s.end - q) q (omega arith) in
    pieces-after file s q front.0 n (walk file s (s.end - q) q).packets (walk file s (s.end - q) q).fault (by_chunk (data_packets (walk file s (s.end - q) q).packets)) front.1 refl next

-- ---- the search

stretch-none : (file : List ℕ) (s : Section) (q : ℕ) → s.end ≤ q → stretch file s q ≡ record { packets = []; fault = None; next = None }
unfolding stretch
stretch-none file s q over = rw (walk_from-end file s q (omega arith), data-none, by_chunk-none)

covered-same : (s : Section) (i first q items : ℕ) (packets : List Packet) (found : Option Fault) (next : Option ℕ) (go other : ℕ → Result ChunkAt Fault) → ((n : ℕ) → next ≡ Some n → go n ≡ other n)
    → covered s i first q items (record { packets = packets; fault = found; next = next }) go ≡ covered s i first q items (record { packets = packets; fault = found; next = next }) other
covered-same s i first q items packets (Some x) None go other same = refl
covered-same s i first q items packets (Some x) (Some n) go other same = refl
covered-same s i first q items packets None None go other same =
    ⊎_elim (λ (in_it : nat_lt (i - first) items ≡ true). rw in_it) (λ (past : nat_lt (i - first) items ≡ false). rw past) (cases_Bool (nat_lt (i - first) items))
covered-same s i first q items packets None (Some n) go other same = rw (same n refl)

past-end : (file : List ℕ) (s : Section) (fixed : Fixed) (i f g first q : ℕ) → s.end ≤ q → cover file s fixed i f first q ≡ cover file s fixed i g first q
past-end file s fixed i f g first q over =
    let nothing : stretch file s q ≡ record { packets = []; fault = None; next = None } = stretch-none file s q over in
    cover-last file s fixed i f first q [] nothing ∙ sym (cover-last file s fixed i g first q [] nothing)

pub cover-fuel : (file : List ℕ) (s : Section) (fixed : Fixed) (i f g first q : ℕ) → s.end - q ≤ f → s.end - q ≤ g → cover file s fixed i f first q ≡ cover file s fixed i g first q
unfolding cover
cover-fuel file s fixed i zero g first q enough other = past-end file s fixed i 0 g first q (omega arith)
cover-fuel file s fixed i (suc f) zero first q enough other = past-end file s fixed i (suc f) 0 first q (omega arith)
cover-fuel file s fixed i (suc f) (suc g) first q enough other =
    let items = float_items (Some fixed) (stretch file s q).packets in
    covered-same s i first q items (stretch file s q).packets (stretch file s q).fault (stretch file s q).next (λ next. cover file s fixed i f (first + items) next) (λ next. cover file s fixed i g (first + items) next)
    (λ n next. let after = next-after file s q n next in cover-fuel file s fixed i f g (first + items) n (omega arith) (omega arith))

-- one step of the search
pub cover_from-step : (file : List ℕ) (s : Section) (fixed : Fixed) (i first q : ℕ) → cover_from file s fixed i first q ≡ covered s i first q (float_items (Some fixed) (stretch file s q).packets) (stretch file s q) (λ next. cover_from file s fixed i (first + float_items (Some fixed) (stretch file s q).packets) next)
unfolding cover
cover_from-step file s fixed i first q =
    let items = float_items (Some fixed) (stretch file s q).packets in
    cover-fuel file s fixed i (s.end - q) (suc (s.end - q)) first q (omega arith) (omega arith)
    ∙ covered-same s i first q items (stretch file s q).packets (stretch file s q).fault (stretch file s q).next (λ next. cover file s fixed i (s.end - q) (first + items) next) (λ next. cover_from file s fixed i (first + items) next)
    (λ n next. let after = next-after file s q n next in cover-fuel file s fixed i (s.end - q) (s.end - n) (first + items) n (omega arith) (omega arith))
