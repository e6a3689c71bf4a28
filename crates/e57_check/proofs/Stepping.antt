-- One packet more, by what was loaded.
use Rattle.std.specs.Prelude.{◌≡◌, ℕ, ◌+◌, ◌*◌, ◌≤◌, Bool, false, List, Option, Some, None, IfSome}
use Rattle.std.specs.Option.{option_or}
use Rattle.std.proofs.Common.{refl, sym, subst, ap, ◌∙◌, arith, ⊎_elim}
use Rattle.std.proofs.lemmas.Bool.{cond_both}
use Rattle.e57_base.specs.Source.{SourceView}
use Rattle.e57_base.proofs.Told.{told_map}
use Rattle.e57_base.specs.declared.fault.ReadFault.{ReadFault}
use Rattle.e57_page.specs.File.{logical}
use Rattle.e57_layout.specs.Packets.{data_size}
use Rattle.e57_layout.specs.declared.section.Section.{Section}
use Rattle.e57_cloud.specs.Walk.{Packet, packet_at}
use Rattle.e57_section.specs.declared.load.Loaded.{Loaded}
use Rattle.e57_section.specs.declared.load.Loaded.TheVariants.{Stream, Index, Empty}
use Rattle.e57_section.specs.Loading.{loaded_length, needed_by, HoldsStreams, IsLoaded, loaded_as, LoadsPacket, LosesPacket}
use Rattle.e57_section.proofs.AskingLaws.{loaded_packet}
use Rattle.e57_check.specs.Asking.{AsksPages}
use Rattle.e57_check.proofs.AskingLaws.{packet_pages}
use Rattle.e57_check.specs.Starts.{AreStarts, float_bytes, items, start_fault, begins, arrived}
use Rattle.e57_check.specs.Passing.{IsWithin, came_with, Steps, StepsNot}
use Rattle.e57_check.specs.declared.starts.Starts.{Starts}
use Rattle.e57_check.specs.declared.starts.Starts.TheVariants.{Indexed, Counted}
use Rattle.e57_check.specs.declared.starts.Came.{Came}
use Rattle.e57_check.specs.declared.starts.Passed.{Passed}
use Rattle.e57_ahead.proofs.Taking.{get-total}

-- ---- pages

loads-pages : (count : ℕ) (old new : SourceView) (kept now : List ℕ) (s : Section) (q : ℕ) (answer : Loaded) (held : Option (List (List ℕ))) → s.end ≤ count * 1020 → LoadsPacket old kept s q answer held new now → AsksPages count old new
loads-pages count old new kept now s q answer held inside loads =
    let most = needed-most answer loads.some in
    let within = loads.within in
    packet_pages kept q (needed_by answer) count old new most.0 (omega (arith, most.1, within, inside)) loads.source
  where
    needed-most : (answer : Loaded) → 4 ≤ loaded_length answer → (4 ≤ needed_by answer) × (needed_by answer ≤ loaded_length answer)
    needed-most (Stream n restart) some = (some, omega arith)
    needed-most (Index n) some = (omega arith, some)
    needed-most (Empty n) some = (omega arith, some)

pub lost-step : (count : ℕ) (old new : SourceView) (kept now : List ℕ) (s : Section) (r : Passed) (found : ReadFault) (held : Option (List (List ℕ))) → s.end ≤ count * 1020 → LosesPacket old kept s r.taken found held new now → StepsNot count old s r found new
lost-step count old new kept now s r found held inside loses =
    let within = loses.within in
    record { source = packet_pages kept r.taken loses.n count old new loses.some (omega (arith, within, inside)) loses.source; cause = loses.cause }

-- ---- a packet without streams

length-as : (q : ℕ) (answer : Loaded) (held : Option (List (List ℕ))) → loaded_length answer ≡ (loaded_as q answer held).length
length-as q (Stream n restart) None = refl
length-as q (Stream n restart) (Some streams) = refl
length-as q (Index n) held = refl
length-as q (Empty n) held = refl

length-loaded : (file : List ℕ) (q : ℕ) (answer : Loaded) (held : Option (List (List ℕ))) → IsLoaded (logical file) q answer held → q + loaded_length answer ≡ q + (packet_at (logical file) q).length
length-loaded file q answer held is = ap (λ (n : ℕ). q + n) (length-as q answer held ∙ sym (ap (λ (p : Packet). p.length) (loaded_packet (logical file) q answer held is)))

pub past-step : (count : ℕ) (old new : SourceView) (kept now : List ℕ) (s : Section) (starts : Starts) (r : Passed) (answer : Loaded) (held : Option (List (List ℕ))) → (loaded_as r.taken answer held).is_data ≡ false → s.end ≤ count * 1020 → IsWithin s r → LoadsPacket old kept s r.taken answer held new now
    → Steps count old s starts r (record { taken = r.taken + loaded_length answer; came = r.came }) new
past-step count old new kept now s starts r answer held other inside within loads =
    let counted = within.counted in
    let began = within.starts in
    let some = loads.some in
    record {
      source = loads-pages count old new kept now s r.taken answer held inside loads;
      within = record { within = loads.within; counted = omega (arith, counted); starts = omega (arith, began) };
      forward = omega (arith, some);
      sound = loads.sound;
      long = told_map (λ file. IsLoaded (logical file) r.taken answer held) (λ file. r.taken + loaded_length answer ≡ r.taken + (packet_at (logical file) r.taken).length) old.held
          (λ file is. length-loaded file r.taken answer held is) loads.read;
      came = told_map (λ file. IsLoaded (logical file) r.taken answer held) (λ file. r.came ≡ came_with s starts r.came (packet_at (logical file) r.taken)) old.held
          (λ file is. subst (λ (p : Packet). r.came ≡ came_with s starts r.came p) (sym (loaded_packet (logical file) r.taken answer held is)) (rw other refl)) loads.read;
    }

-- the bytes of the Float field are some of the packet's
bytes-size : (starts : Starts) (streams : List (List ℕ)) (n : ℕ) → data_size streams ≤ n → float_bytes starts streams ≤ n
unfolding data_size
bytes-size (Indexed es) streams n size = omega arith
bytes-size (Counted None) streams n size = omega arith
bytes-size (Counted (Some fixed)) streams n size = let most = get-total streams fixed.field in omega (arith, most, size)

pub bytes-short : (s : Section) (starts : Starts) (n : ℕ) (restart : Bool) (held : Option (List (List ℕ))) (bytes : ℕ) → HoldsStreams s (Stream n restart) held → IfSome held (λ streams. bytes ≡ float_bytes starts streams) → bytes ≤ n
bytes-short s starts n restart None bytes holds is = absurd holds
bytes-short s starts n restart (Some streams) bytes holds is = rw is (bytes-size starts streams n holds.1)

pub items-few : (s : Section) (starts : Starts) (bytes : ℕ) → AreStarts s starts → items starts bytes ≤ bytes
items-few s (Indexed es) bytes are = omega arith
items-few s (Counted None) bytes are = omega arith
items-few s (Counted (Some fixed)) bytes are = ⊎_elim (λ (four : fixed.bytes ≡ 4). rw four (omega arith)) (λ (eight : fixed.bytes ≡ 8). rw eight (omega arith)) are.1

arrived-within : (s : Section) (starts : Starts) (r : Passed) (q n : ℕ) (restart : Bool) (bytes : ℕ) → AreStarts s starts → IsWithin s r → 4 ≤ n → r.taken + n ≤ s.end → bytes ≤ n → IsWithin s (record { taken = r.taken + n; came = arrived s starts r.came q restart bytes })
arrived-within s starts r q n restart bytes are within some inside few =
    let counted = within.counted in
    let began = within.starts in
    let least = items-few s starts r.came.bytes are in
    cond_both (begins r.came restart)
    (record { starts = r.came.starts + 1; first = r.came.first + items starts r.came.bytes; bytes = bytes; found = option_or r.came.found (start_fault s starts r.came q) })
    (record { starts = r.came.starts; first = r.came.first; bytes = r.came.bytes + bytes; found = r.came.found })
    (λ (came : Came). IsWithin s (record { taken = r.taken + n; came = came }))
    (λ yes. record { within = inside; counted = omega (arith, counted, least, few); starts = omega (arith, began, some) })
    (λ no. record { within = inside; counted = omega (arith, counted, few); starts = omega (arith, began) })

came-loaded : (b : List ℕ) (s : Section) (starts : Starts) (came : Came) (q n : ℕ) (restart : Bool) (held : Option (List (List ℕ))) (bytes : ℕ) → IfSome held (λ streams. bytes ≡ float_bytes starts streams) → IsLoaded b q (Stream n restart) held
    → arrived s starts came q restart bytes ≡ came_with s starts came (packet_at b q)
came-loaded b s starts came q n restart None bytes are is = let none = is.3 in absurd cc
came-loaded b s starts came q n restart (Some streams) bytes are is =
    ap (arrived s starts came q restart) are
    ∙ sym (ap (came_with s starts came) (loaded_packet b q (Stream n restart) (Some streams) is))

pub data-step : (count : ℕ) (old new : SourceView) (kept now : List ℕ) (s : Section) (starts : Starts) (r : Passed) (n : ℕ) (restart : Bool) (held : Option (List (List ℕ))) (bytes : ℕ) → AreStarts s starts → IfSome held (λ streams. bytes ≡ float_bytes starts streams) → s.end ≤ count * 1020 → IsWithin s r
    → LoadsPacket old kept s r.taken (Stream n restart) held new now → Steps count old s starts r (record { taken = r.taken + n; came = arrived s starts r.came r.taken restart bytes }) new
data-step count old new kept now s starts r n restart held bytes are is inside within loads =
    let some = loads.some in
    record {
      source = loads-pages count old new kept now s r.taken (Stream n restart) held inside loads;
      within = arrived-within s starts r r.taken n restart bytes are within some loads.within (bytes-short s starts n restart held bytes loads.streams is);
      forward = omega (arith, some);
      sound = loads.sound;
      long = told_map (λ file. IsLoaded (logical file) r.taken (Stream n restart) held) (λ file. r.taken + n ≡ r.taken + (packet_at (logical file) r.taken).length) old.held
          (λ file loaded. length-loaded file r.taken (Stream n restart) held loaded) loads.read;
      came = told_map (λ file. IsLoaded (logical file) r.taken (Stream n restart) held) (λ file. arrived s starts r.came r.taken restart bytes ≡ came_with s starts r.came (packet_at (logical file) r.taken)) old.held
          (λ file loaded. came-loaded (logical file) s starts r.came r.taken n restart held bytes is loaded) loads.read;
    }
