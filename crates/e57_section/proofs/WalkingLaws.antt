-- Laws of walks packet by packet.
use Rattle.std.specs.Prelude.{◌≡◌, ℕ, zero, suc, ◌+◌, ◌-◌, ◌<◌, ◌≤◌, Bool, true, false, if◌then◌else◌, List, [], ◌∷◌, ◌++◌, Option, Some, None, Result, Ok, Err}
use Rattle.std.proofs.Common.{refl, sym, subst, ap, ◌∙◌, arith, ⊎_elim}
use Rattle.std.proofs.lemmas.Bool.{lt-ltb, le-ltb, cases_lt}
use Rattle.e57_base.specs.declared.fault.Fault.{Fault}
use Rattle.e57_page.specs.File.{logical}
use Rattle.e57_layout.specs.declared.section.Section.{Section}
use Rattle.e57_cloud.specs.Walk.{Packet, packet_at, packet_fault}
use Rattle.e57_cloud.specs.PathItem.{unless}
use Rattle.e57_cloud.proofs.Laws.Walks.{length_at-some}
use Rattle.e57_section.specs.Walking.{judged_at, Ends, Restarts, Faulty, Walked, goes_on, still_fresh, ended, before, stepped, walk_on, walk_rest, Leads}

-- each packet has bytes
abbrev pub HaveBytes : (ℕ → Result Packet Fault) → Type 0
HaveBytes judge = (q : ℕ) (p : Packet) → judge q ≡ Ok p → 0 < p.length

-- the packets of a file have bytes
pub judged-bytes : (file : List ℕ) (s : Section) → HaveBytes (judged_at file s)
unfolding packet_at
judged-bytes file s q p is = found (packet_fault file s q) is
  where
    found : (fault : Option Fault) → unless fault (Ok (packet_at (logical file) q)) ≡ Ok p → 0 < p.length
    found None is = let same : packet_at (logical file) q ≡ p = cc in subst (λ (x : Packet). 0 < x.length) same (length_at-some (logical file) q)
    found (Some x) is = absurd cc

pub walk_on-end : (judge : ℕ → Result Packet Fault) (limit fuel : ℕ) (fresh : Bool) (at : ℕ) → limit < at + 4 → walk_on judge limit fuel fresh at ≡ ended Ends
unfolding walk_on
walk_on-end judge limit zero fresh at past = refl
walk_on-end judge limit (suc fuel) fresh at past = rw (lt-ltb limit (at + 4) past) refl

pub walk_on-step : (judge : ℕ → Result Packet Fault) (limit fuel : ℕ) (fresh : Bool) (at : ℕ) → at + 4 ≤ limit → walk_on judge limit (suc fuel) fresh at ≡ stepped fresh at (judge at) (λ p. walk_on judge limit fuel (still_fresh fresh p) (at + p.length))
unfolding walk_on
walk_on-step judge limit fuel fresh at there = rw (le-ltb limit (at + 4) there) refl

-- more fuel than bytes makes no difference
pub walk_on-enough : (judge : ℕ → Result Packet Fault) (limit fuel other : ℕ) (fresh : Bool) (at : ℕ) → HaveBytes judge → limit - at ≤ fuel → limit - at ≤ other → walk_on judge limit fuel fresh at ≡ walk_on judge limit other fresh at
walk_on-enough judge limit zero other fresh at have enough too = walk_on-end judge limit zero fresh at (omega arith) ∙ sym (walk_on-end judge limit other fresh at (omega arith))
walk_on-enough judge limit (suc fuel) zero fresh at have enough too = walk_on-end judge limit (suc fuel) fresh at (omega arith) ∙ sym (walk_on-end judge limit zero fresh at (omega arith))
walk_on-enough judge limit (suc fuel) (suc other) fresh at have enough too =
    ⊎_elim
    (λ (past : limit < at + 4). walk_on-end judge limit (suc fuel) fresh at past ∙ sym (walk_on-end judge limit (suc other) fresh at past))
    (λ (there : at + 4 ≤ limit).
    walk_on-step judge limit fuel fresh at there
    ∙ by_judged (judge at) refl (λ p is. walk_on-enough judge limit fuel other (still_fresh fresh p) (at + p.length) have (shorter p is enough) (shorter p is too))
    ∙ sym (walk_on-step judge limit other fresh at there))
    (cases_lt limit (at + 4))
  where
    shorter : (p : Packet) → judge at ≡ Ok p → {n : ℕ} → limit - at ≤ suc n → limit - (at + p.length) ≤ n
    shorter p is h = let some = have at p is in omega (arith, some, h)

    by_judged : (found : Result Packet Fault) → judge at ≡ found → ((p : Packet) → judge at ≡ Ok p → walk_on judge limit fuel (still_fresh fresh p) (at + p.length) ≡ walk_on judge limit other (still_fresh fresh p) (at + p.length))
        → stepped fresh at found (λ p. walk_on judge limit fuel (still_fresh fresh p) (at + p.length)) ≡ stepped fresh at found (λ p. walk_on judge limit other (still_fresh fresh p) (at + p.length))
    by_judged (Err x) is same = refl
    by_judged (Ok p) is same = ap (λ (w : Walked). if goes_on fresh p then before p w else ended (Restarts at)) (same p is)

-- packets, and then a walk
abbrev pub after : List Packet → Walked → Walked
after ps rest = record { packets = ps ++ rest.packets; finish = rest.finish }

-- A walk after packets that lead is those packets, and then the walk from there.
pub walk_rest-leads : (judge : ℕ → Result Packet Fault) (limit : ℕ) (fresh fresh' : Bool) (at to : ℕ) (ps : List Packet) → HaveBytes judge → Leads judge limit fresh at ps fresh' to → walk_rest judge limit fresh at ≡ after ps (walk_rest judge limit fresh' to)
unfolding Leads walk_rest
walk_rest-leads judge limit fresh fresh' at to [] have leads = rw (leads.0, leads.1) refl
walk_rest-leads judge limit fresh fresh' at to (p ∷ ps) have leads =
    let there = leads.0 in
    let some = have at p leads.1 in
    let more : limit - at ≡ suc (limit - at - 1) = omega (arith, there) in
    let step = walk_on-step judge limit (limit - at - 1) fresh at there in
    let same = walk_on-enough judge limit (limit - at - 1) (limit - (at + p.length)) (still_fresh fresh p) (at + p.length) have (omega (arith, some)) (omega arith) in
    let rest = walk_rest-leads judge limit (still_fresh fresh p) fresh' (at + p.length) to ps have leads.3 in
    ap (λ (n : ℕ). walk_on judge limit n fresh at) more ∙ step ∙ rw (leads.1, leads.2, same) (ap (λ (w : Walked). before p w) rest)

-- What leads and leads on leads.
pub leads-on : (judge : ℕ → Result Packet Fault) (limit : ℕ) (fresh fresh' fresh'' : Bool) (at mid to : ℕ) (ps qs : List Packet) → Leads judge limit fresh at ps fresh' mid → Leads judge limit fresh' mid qs fresh'' to → Leads judge limit fresh at (ps ++ qs) fresh'' to
unfolding Leads
leads-on judge limit fresh fresh' fresh'' at mid to [] qs first next = rw (first.0, first.1) at next
leads-on judge limit fresh fresh' fresh'' at mid to (p ∷ ps) qs first next =
    (first.0, first.1, first.2, leads-on judge limit (still_fresh fresh p) fresh' fresh'' (at + p.length) mid to ps qs first.3 next)

-- one packet more
pub leads-one : (judge : ℕ → Result Packet Fault) (limit : ℕ) (fresh : Bool) (at : ℕ) (p : Packet) → at + 4 ≤ limit → judge at ≡ Ok p → goes_on fresh p ≡ true → Leads judge limit fresh at (p ∷ []) (still_fresh fresh p) (at + p.length)
unfolding Leads
leads-one judge limit fresh at p there is on = (there, is, on, (refl, refl))

-- the finish of a walk where it stands
pub walk_rest-end : (judge : ℕ → Result Packet Fault) (limit : ℕ) (fresh : Bool) (at : ℕ) → limit < at + 4 → walk_rest judge limit fresh at ≡ ended Ends
unfolding walk_rest
walk_rest-end judge limit fresh at past = walk_on-end judge limit (limit - at) fresh at past

rest-step : (judge : ℕ → Result Packet Fault) (limit : ℕ) (fresh : Bool) (at : ℕ) → at + 4 ≤ limit → walk_rest judge limit fresh at ≡ stepped fresh at (judge at) (λ p. walk_on judge limit (limit - at - 1) (still_fresh fresh p) (at + p.length))
unfolding walk_rest
rest-step judge limit fresh at there =
    let more : limit - at ≡ suc (limit - at - 1) = omega (arith, there) in
    ap (λ (n : ℕ). walk_on judge limit n fresh at) more ∙ walk_on-step judge limit (limit - at - 1) fresh at there

pub walk_rest-faulty : (judge : ℕ → Result Packet Fault) (limit : ℕ) (fresh : Bool) (at : ℕ) (found : Fault) → at + 4 ≤ limit → judge at ≡ Err found → walk_rest judge limit fresh at ≡ ended (Faulty found)
walk_rest-faulty judge limit fresh at found there is = rest-step judge limit fresh at there ∙ rw is refl

pub walk_rest-restarts : (judge : ℕ → Result Packet Fault) (limit : ℕ) (fresh : Bool) (at : ℕ) (p : Packet) → at + 4 ≤ limit → judge at ≡ Ok p → goes_on fresh p ≡ false → walk_rest judge limit fresh at ≡ ended (Restarts at)
walk_rest-restarts judge limit fresh at p there is off = rest-step judge limit fresh at there ∙ rw (is, off) refl
