-- The walk packet by packet from a place on is the first chunk from there, with its end.
use Rattle.std.specs.Prelude.{◌≡◌, ℕ, zero, suc, ◌+◌, ◌-◌, ◌<◌, ◌≤◌, ◌||◌, ◌&&◌, not, Bool, true, false, List, [], ◌∷◌, ◌++◌, length, Option, Some, None, Result, Ok}
use Rattle.std.specs.List.{onto_first}
use Rattle.std.proofs.Common.{refl, sym, subst, ap, ◌∙◌, arith, ⊎_elim}
use Rattle.std.proofs.lemmas.Bool.{cases_lt, cases_Bool, cond-true, cond-false}
use Rattle.e57_base.specs.declared.fault.Fault.{Fault}
use Rattle.e57_page.specs.File.{logical}
use Rattle.e57_layout.specs.Packets.{length_at}
use Rattle.e57_layout.specs.declared.section.Section.{Section}
use Rattle.e57_cloud.specs.Walk.{Packet, packet_at, packet_fault, walk, walk_from, Walk, onward}
use Rattle.e57_cloud.specs.Chunks.{data_packets, cut, by_chunk}
use Rattle.e57_cloud.specs.Met.{place_after, IsWalked}
use Rattle.e57_cloud.specs.PathItem.{Stretch, stretch_of, stretch, unless}
use Rattle.e57_cloud.proofs.Laws.Chunks.{cut-restart}
use Rattle.e57_cloud.proofs.Laws.Walks.{length_at-some, walk-end, walk-step}
use Rattle.e57_section.specs.Walking.{judged_at, Restarts, Walked, goes_on, still_fresh, ended, before, stepped, walk_on, walk_rest, Leads, finish_fault, finish_next}
use Rattle.e57_section.proofs.WalkingLaws.{walk_on-end, walk_on-step}
use Rattle.e57_cloud.proofs.Laws.Fronts.{packet-length}
use Rattle.e57_cloud.proofs.Laws.Pieces.{data-yes, data-other, cut-on, by_chunk-is}

-- the data packets of a walk, and what ended it
abbrev pub as_stretch : Walked → Stretch
as_stretch w = record { packets = data_packets w.packets; fault = finish_fault w.finish; next = finish_next w.finish }

with_first : Packet → Stretch → Stretch
with_first p w = record { packets = p ∷ w.packets; fault = w.fault; next = w.next }

data-none : data_packets [] ≡ []
unfolding data_packets
data-none = refl

cut-none : cut [] ≡ [] ∷ []
unfolding cut
cut-none = refl

chunk-none : by_chunk [] ≡ [] ∷ []
unfolding by_chunk
chunk-none = refl

stretch-onto : (found : Option Fault) (p : Packet) (pieces : List (List Packet)) → stretch_of found (onto_first p pieces) ≡ with_first p (stretch_of found pieces)
unfolding with_first
stretch-onto found p [] = refl
stretch-onto found p (c ∷ []) = refl
stretch-onto found p (c ∷ d ∷ more) = refl

stretch-cut : (found : Option Fault) (p : Packet) (pieces : List (List Packet)) → stretch_of found ([] ∷ onto_first p pieces) ≡ record { packets = []; fault = None; next = Some p.place }
stretch-cut found p [] = refl
stretch-cut found p (c ∷ more) = refl

packet-place : (b : List ℕ) (q : ℕ) → (packet_at b q).place ≡ q
unfolding packet_at
packet-place b q = refl

-- a data packet more
stretch-before : (p : Packet) (rest : Walked) → p.is_data ≡ true → as_stretch (before p rest) ≡ with_first p (as_stretch rest)
unfolding with_first
stretch-before p rest is = rw (data-yes p rest.packets is) refl

-- another packet more
stretch-other : (p : Packet) (rest : Walked) → p.is_data ≡ false → as_stretch (before p rest) ≡ as_stretch rest
stretch-other p rest other = rw (data-other p rest.packets other) refl

-- one step of a walk, over packets or to another chunk
step-on : (fresh fresh' : Bool) (q n : ℕ) (x : Packet) (on : Bool → ℕ → Walked) → goes_on fresh x ≡ true → still_fresh fresh x ≡ fresh' → x.length ≡ n → stepped fresh q (Ok x) (λ p. on (still_fresh fresh p) (q + p.length)) ≡ before x (on fresh' (q + n))
step-on fresh fresh' q n x on goes same long =
    cond-true (goes_on fresh x) (before x (on (still_fresh fresh x) (q + x.length))) (ended (Restarts q)) goes
    ∙ ap (λ (w : Walked). before x w) (ap (λ (f : Bool). on f (q + x.length)) same ∙ ap (λ (m : ℕ). on fresh' (q + m)) long)

step-off : (q : ℕ) (x : Packet) (on : Bool → ℕ → Walked) → goes_on false x ≡ false → stepped false q (Ok x) (λ p. on (still_fresh false p) (q + p.length)) ≡ ended (Restarts q)
step-off q x on stops = cond-false (goes_on false x) (before x (on (still_fresh false x) (q + x.length))) (ended (Restarts q)) stops

goes-same : (x : Packet) → x.restart ≡ false → goes_on false x ≡ true
goes-same x same = ap (λ (r : Bool). not (x.is_data && r)) same ∙ either x.is_data
  where
    either : (d : Bool) → not (d && false) ≡ true
    either true = refl
    either false = refl

goes-other : (x : Packet) → x.is_data ≡ false → goes_on false x ≡ true
goes-other x other = ap (λ (d : Bool). not (d && x.restart)) other

stops-restart : (x : Packet) → x.is_data ≡ true → x.restart ≡ true → goes_on false x ≡ false
stops-restart x is restart = ap (λ (d : Bool). not (d && x.restart)) is ∙ ap (λ (r : Bool). not r) restart

-- what is found behind a data packet of the chunk
later-none : (file : List ℕ) (s : Section) (q : ℕ) → stretch_of (walk file s zero q).fault (cut (data_packets (walk file s zero q).packets)) ≡ as_stretch (walk_on (judged_at file s) s.end zero false q)
unfolding walk walk_on
later-none file s q = rw (data-none, cut-none) refl

later : (file : List ℕ) (s : Section) (fuel q : ℕ) → stretch_of (walk file s fuel q).fault (cut (data_packets (walk file s fuel q).packets)) ≡ as_stretch (walk_on (judged_at file s) s.end fuel false q)
later file s zero q = later-none file s q
later file s (suc fuel) q =
    ⊎_elim
    (λ (past : s.end < q + 4). rw (walk-end file s (suc fuel) q past, walk_on-end (judged_at file s) s.end (suc fuel) false q past, data-none, cut-none) refl)
    (λ (there : q + 4 ≤ s.end).
    rw (walk-step file s fuel q there, walk_on-step (judged_at file s) s.end fuel false q there)
    (by_fault (packet_fault file s q) (packet_at (logical file) q) (walk file s fuel (q + length_at (logical file) q)) (packet-place (logical file) q) (later file s fuel (q + length_at (logical file) q)) (packet-length (logical file) q)))
    (cases_lt s.end (q + 4))
  where
    by_fault : (found : Option Fault) (x : Packet) (rest : Walk) → x.place ≡ q → stretch_of rest.fault (cut (data_packets rest.packets)) ≡ as_stretch (walk_on (judged_at file s) s.end fuel false (q + length_at (logical file) q)) → x.length ≡ length_at (logical file) q
        → stretch_of (onward found x rest).fault (cut (data_packets (onward found x rest).packets)) ≡ as_stretch (stepped false q (unless found (Ok x)) (λ p. walk_on (judged_at file s) s.end fuel (still_fresh false p) (q + p.length)))
    by_fault (Some f) x rest place hyp long = rw (data-none, cut-none) refl
    by_fault None x rest place hyp long =
        ⊎_elim
        (λ (is : x.is_data ≡ true).
        ⊎_elim
        (λ (restart : x.restart ≡ true).
        ap (λ (ds : List Packet). stretch_of rest.fault (cut ds)) (data-yes x rest.packets is)
        ∙ ap (λ (pieces : List (List Packet)). stretch_of rest.fault pieces) (cut-restart x (data_packets rest.packets) restart)
        ∙ stretch-cut rest.fault x (cut (data_packets rest.packets))
        ∙ ap (λ (n : ℕ). record { packets = []; fault = None; next = Some n }) place
        ∙ ap (λ (ds : List Packet). record { packets = ds; fault = None; next = Some q }) (sym data-none)
        ∙ sym (ap as_stretch (step-off q x (walk_on (judged_at file s) s.end fuel) (stops-restart x is restart))))
        (λ (on : x.restart ≡ false).
        ap (λ (ds : List Packet). stretch_of rest.fault (cut ds)) (data-yes x rest.packets is)
        ∙ ap (λ (pieces : List (List Packet)). stretch_of rest.fault pieces) (cut-on x (data_packets rest.packets) on)
        ∙ stretch-onto rest.fault x (cut (data_packets rest.packets))
        ∙ ap (λ (w : Stretch). with_first x w) hyp
        ∙ sym (stretch-before x (walk_on (judged_at file s) s.end fuel false (q + length_at (logical file) q)) is)
        ∙ sym (ap as_stretch (step-on false false q (length_at (logical file) q) x (walk_on (judged_at file s) s.end fuel) (goes-same x on) refl long)))
        (cases_Bool x.restart))
        (λ (other : x.is_data ≡ false).
        ap (λ (ds : List Packet). stretch_of rest.fault (cut ds)) (data-other x rest.packets other)
        ∙ hyp
        ∙ sym (stretch-other x (walk_on (judged_at file s) s.end fuel false (q + length_at (logical file) q)) other)
        ∙ sym (ap as_stretch (step-on false false q (length_at (logical file) q) x (walk_on (judged_at file s) s.end fuel) (goes-other x other) refl long)))
        (cases_Bool x.is_data)

first-none : (file : List ℕ) (s : Section) (q : ℕ) → stretch_of (walk file s zero q).fault (by_chunk (data_packets (walk file s zero q).packets)) ≡ as_stretch (walk_on (judged_at file s) s.end zero true q)
unfolding walk walk_on
first-none file s q = rw (data-none, chunk-none) refl

first : (file : List ℕ) (s : Section) (fuel q : ℕ) → stretch_of (walk file s fuel q).fault (by_chunk (data_packets (walk file s fuel q).packets)) ≡ as_stretch (walk_on (judged_at file s) s.end fuel true q)
first file s zero q = first-none file s q
first file s (suc fuel) q =
    ⊎_elim
    (λ (past : s.end < q + 4). rw (walk-end file s (suc fuel) q past, walk_on-end (judged_at file s) s.end (suc fuel) true q past, data-none, chunk-none) refl)
    (λ (there : q + 4 ≤ s.end).
    rw (walk-step file s fuel q there, walk_on-step (judged_at file s) s.end fuel true q there)
    (by_fault (packet_fault file s q) (packet_at (logical file) q) (walk file s fuel (q + length_at (logical file) q)) (later file s fuel (q + length_at (logical file) q)) (first file s fuel (q + length_at (logical file) q)) (packet-length (logical file) q)))
    (cases_lt s.end (q + 4))
  where
    by_fault : (found : Option Fault) (x : Packet) (rest : Walk) → stretch_of rest.fault (cut (data_packets rest.packets)) ≡ as_stretch (walk_on (judged_at file s) s.end fuel false (q + length_at (logical file) q)) → stretch_of rest.fault (by_chunk (data_packets rest.packets)) ≡ as_stretch (walk_on (judged_at file s) s.end fuel true (q + length_at (logical file) q)) → x.length ≡ length_at (logical file) q
        → stretch_of (onward found x rest).fault (by_chunk (data_packets (onward found x rest).packets)) ≡ as_stretch (stepped true q (unless found (Ok x)) (λ p. walk_on (judged_at file s) s.end fuel (still_fresh true p) (q + p.length)))
    by_fault (Some f) x rest hyp fresh long = rw (data-none, chunk-none) refl
    by_fault None x rest hyp fresh long =
        ⊎_elim
        (λ (is : x.is_data ≡ true).
        ap (λ (ds : List Packet). stretch_of rest.fault (by_chunk ds)) (data-yes x rest.packets is)
        ∙ ap (λ (pieces : List (List Packet)). stretch_of rest.fault pieces) (by_chunk-is x (data_packets rest.packets))
        ∙ stretch-onto rest.fault x (cut (data_packets rest.packets))
        ∙ ap (λ (w : Stretch). with_first x w) hyp
        ∙ sym (stretch-before x (walk_on (judged_at file s) s.end fuel false (q + length_at (logical file) q)) is)
        ∙ sym (ap as_stretch (step-on true false q (length_at (logical file) q) x (walk_on (judged_at file s) s.end fuel) refl (ap (λ (d : Bool). not d) is) long)))
        (λ (other : x.is_data ≡ false).
        ap (λ (ds : List Packet). stretch_of rest.fault (by_chunk ds)) (data-other x rest.packets other)
        ∙ fresh
        ∙ sym (stretch-other x (walk_on (judged_at file s) s.end fuel true (q + length_at (logical file) q)) other)
        ∙ sym (ap as_stretch (step-on true true q (length_at (logical file) q) x (walk_on (judged_at file s) s.end fuel) refl (ap (λ (d : Bool). not d) other) long)))
        (cases_Bool x.is_data)

-- The walk from a place with its finish is the first chunk from there, with its end.
pub stretch-walk : (file : List ℕ) (s : Section) (q : ℕ) → stretch file s q ≡ as_stretch (walk_rest (judged_at file s) s.end true q)
unfolding stretch walk_from walk_rest
stretch-walk file s q = first file s (s.end - q) q

-- ---- packets that lead are those of the walk

onto-one : (p : Packet) (pieces : List (List Packet)) → length pieces ≡ 1 → length (onto_first p pieces) ≡ 1
onto-one p [] one = refl
onto-one p (c ∷ more) one = one

goes-on : (p : Packet) → goes_on false p ≡ true → p.is_data ≡ true → p.restart ≡ false
goes-on p on is = tested p.is_data p.restart on is
  where
    tested : (d r : Bool) → (false || not (d && r)) ≡ true → d ≡ true → r ≡ false
    tested true true on is = absurd cc
    tested true false on is = refl
    tested false r on is = absurd cc

later-one : (judge : ℕ → Result Packet Fault) (limit : ℕ) (fresh' : Bool) (at to : ℕ) (ps : List Packet) → Leads judge limit false at ps fresh' to → length (cut (data_packets ps)) ≡ 1
unfolding Leads
later-one judge limit fresh' at to [] leads = rw (data-none, cut-none) refl
later-one judge limit fresh' at to (p ∷ ps) leads =
    let rest = later-one judge limit fresh' (at + p.length) to ps leads.3 in
    ⊎_elim
    (λ (is : p.is_data ≡ true). rw (data-yes p ps is, cut-on p (data_packets ps) (goes-on p leads.2 is)) (onto-one p (cut (data_packets ps)) rest))
    (λ (other : p.is_data ≡ false). rw (data-other p ps other) rest)
    (cases_Bool p.is_data)

first-one : (judge : ℕ → Result Packet Fault) (limit : ℕ) (fresh' : Bool) (at to : ℕ) (ps : List Packet) → Leads judge limit true at ps fresh' to → length (by_chunk (data_packets ps)) ≡ 1
unfolding Leads
first-one judge limit fresh' at to [] leads = rw (data-none, chunk-none) refl
first-one judge limit fresh' at to (p ∷ ps) leads =
    ⊎_elim
    (λ (is : p.is_data ≡ true).
    let rest = later-one judge limit fresh' (at + p.length) to ps (subst (λ (f : Bool). Leads judge limit f (at + p.length) ps fresh' to) (ap (λ (d : Bool). true && not d) is) leads.3) in
    rw (data-yes p ps is, by_chunk-is p (data_packets ps)) (onto-one p (cut (data_packets ps)) rest))
    (λ (other : p.is_data ≡ false).
    let rest = first-one judge limit fresh' (at + p.length) to ps (subst (λ (f : Bool). Leads judge limit f (at + p.length) ps fresh' to) (ap (λ (d : Bool). true && not d) other) leads.3) in
    rw (data-other p ps other) rest)
    (cases_Bool p.is_data)

judged-none : (found : Option Fault) (x p : Packet) → unless found (Ok x) ≡ Ok p → (found ≡ None) × (x ≡ p)
judged-none None x p is = (refl, cc)
judged-none (Some f) x p is = absurd cc

onward-packets : (found : Option Fault) (x p : Packet) (rest : Walk) → found ≡ None → x ≡ p → (onward found x rest).packets ≡ p ∷ rest.packets
onward-packets None x p rest none same = ap (λ (y : Packet). y ∷ rest.packets) same
onward-packets (Some f) x p rest none same = absurd cc

leads-front : (file : List ℕ) (s : Section) (fuel at to : ℕ) (fresh fresh' : Bool) (ps : List Packet) → s.end - at ≤ fuel → Leads (judged_at file s) s.end fresh at ps fresh' to → (more : List Packet) × ((walk file s fuel at).packets ≡ ps ++ more)
unfolding Leads
leads-front file s fuel at to fresh fresh' [] enough leads = ((walk file s fuel at).packets, refl)
leads-front file s zero at to fresh fresh' (p ∷ ps) enough leads = let there = leads.0 in absurd (omega (arith, there, enough))
leads-front file s (suc fuel) at to fresh fresh' (p ∷ ps) enough leads =
    let found = judged-none (packet_fault file s at) (packet_at (logical file) at) p leads.1 in
    let long : length_at (logical file) at ≡ p.length = sym (packet-length (logical file) at) ∙ ap (λ (x : Packet). x.length) found.1 in
    let some = length_at-some (logical file) at in
    let rest = leads-front file s fuel (at + p.length) to (still_fresh fresh p) fresh' ps (omega (arith, enough, some, long)) leads.3 in (
      rest.0,
      ap (λ (w : Walk). w.packets) (walk-step file s fuel at leads.0)
          ∙ onward-packets (packet_fault file s at) (packet_at (logical file) at) p (walk file s fuel (at + length_at (logical file) at)) found.0 found.1
          ∙ ap (λ (n : ℕ). p ∷ (walk file s fuel (at + n)).packets) long
          ∙ ap (λ (l : List Packet). p ∷ l) rest.1,
    )

leads-place : (judge : ℕ → Result Packet Fault) (limit : ℕ) (fresh fresh' : Bool) (at to : ℕ) (ps : List Packet) → Leads judge limit fresh at ps fresh' to → place_after at ps ≡ to
unfolding Leads place_after
leads-place judge limit fresh fresh' at to [] leads = sym leads.1
leads-place judge limit fresh fresh' at to (p ∷ ps) leads = leads-place judge limit (still_fresh fresh p) fresh' (at + p.length) to ps leads.3

-- Packets that lead from the start of a chunk are walked.
pub leads-walked : (file : List ℕ) (s : Section) (at to : ℕ) (fresh' : Bool) (ps : List Packet) → Leads (judged_at file s) s.end true at ps fresh' to → IsWalked file s at ps to
unfolding walk_from
leads-walked file s at to fresh' ps leads =
    let front = leads-front file s (s.end - at) at to true fresh' ps (omega arith) leads in
    record {
      later = front.0;
      all = front.1;
      reached = leads-place (judged_at file s) s.end true fresh' at to ps leads;
      one_chunk = first-one (judged_at file s) s.end fresh' at to ps leads;
    }
