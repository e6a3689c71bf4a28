-- Laws of a writer's steps: they lead to the packets of all groups.
use Rattle.std.proofs.Common.{◌≡◌, ℕ, ◌≤◌, Bool, true, false, cond, List, [], ◌∷◌, ◌++◌, Option, Some, None, refl, sym, ap, ◌∙◌, append_assoc, append-nil}
use Rattle.std.specs.List.{AllByRecursion}
use Rattle.std.proofs.lemmas.Bool.{cond_both}
use Rattle.e57_layout.specs.Packing.{join_streams, fits_packet, poured, flushed, packets_of}
use Rattle.e57_layout.specs.Steps.{Step, step, steps}
use Rattle.e57_layout.proofs.Laws.Lists.{all-append}
use Rattle.e57_layout.proofs.Laws.Packing.{IsPacket, HasStreams, IsRun, fits-run, length-join_streams, poured-packets, packets_of-nil}

-- the packets of groups after a step
abbrev after : List (List (List ℕ)) → Step → List (List (List ℕ))
after groups s = s.done ++ packets_of s.run groups

-- one group
pub packets_of-step : (run : Option (List (List ℕ))) (group : List (List ℕ)) (groups : List (List (List ℕ))) → packets_of run (group ∷ groups) ≡ (step run group).done ++ packets_of (step run group).run groups
unfolding step packets_of
packets_of-step None group groups = chosen (fits_packet group)
  where
    chosen : (b : Bool) → cond b (packets_of (Some group) groups) (poured group ++ packets_of None groups) ≡ after groups (cond b (record { done = []; run = Some group }) (record { done = poured group; run = None }))
    chosen true = refl
    chosen false = refl
packets_of-step (Some run) group groups = chosen (fits_packet (join_streams run group)) (fits_packet group)
  where
    chosen : (b c : Bool) → cond b (packets_of (Some (join_streams run group)) groups) (cond c (run ∷ packets_of (Some group) groups) (run ∷ (poured group ++ packets_of None groups))) ≡ after groups (cond b (record { done = []; run = Some (join_streams run group) }) (cond c (record { done = run ∷ []; run = Some group }) (record { done = run ∷ poured group; run = None })))
    chosen true c = refl
    chosen false true = refl
    chosen false false = refl

-- some groups and then more
pub packets_of-steps : (run : Option (List (List ℕ))) (groups later : List (List (List ℕ))) → packets_of run (groups ++ later) ≡ (steps run groups).done ++ packets_of (steps run groups).run later
unfolding steps
packets_of-steps run [] later = refl
packets_of-steps run (group ∷ groups) later =
    packets_of-step run group (groups ++ later)
    ∙ ap (λ parts. (step run group).done ++ parts) (packets_of-steps (step run group).run groups later)
    ∙ sym (append_assoc (step run group).done (steps (step run group).run groups).done (packets_of (steps (step run group).run groups).run later))

-- all groups, and what is under way at their end
pub packets_of-all : (run : Option (List (List ℕ))) (groups : List (List (List ℕ))) → packets_of run groups ≡ (steps run groups).done ++ flushed (steps run groups).run
packets_of-all run groups =
    ap (packets_of run) (sym (append-nil groups)) ∙ packets_of-steps run groups [] ∙ ap (λ parts. (steps run groups).done ++ parts) (packets_of-nil (steps run groups).run)

pub steps-nil : (run : Option (List (List ℕ))) → steps run [] ≡ record { done = []; run = run }
unfolding steps
steps-nil run = refl

-- one group more
pub steps-push : (run : Option (List (List ℕ))) (groups : List (List (List ℕ))) (group : List (List ℕ)) → steps run (groups ++ (group ∷ [])) ≡ record { done = (steps run groups).done ++ (step (steps run groups).run group).done; run = (step (steps run groups).run group).run }
unfolding steps
steps-push run [] group = ap (λ (parts : List (List (List ℕ))). record { done = parts; run = (step run group).run }) (append-nil (step run group).done)
steps-push run (first ∷ groups) group =
    ap (λ (s : Step). record { done = (step run first).done ++ s.done; run = s.run }) (steps-push (step run first).run groups group)
    ∙ ap (λ (parts : List (List (List ℕ))). record { done = parts; run = (step (steps (step run first).run groups).run group).run }) (sym (append_assoc (step run first).done (steps (step run first).run groups).done (step (steps (step run first).run groups).run group).done))

-- a step leaves a run that fits, and packets that fit
pub record IsStep (n : ℕ) (s : Step) : Type 0 where
  pub run : IsRun n s.run
  pub done : AllByRecursion (IsPacket n) s.done

pub step-fits : (n : ℕ) (run : Option (List (List ℕ))) (group : List (List ℕ)) → n ≤ 512 → IsRun n run → HasStreams n group → IsStep n (step run group)
unfolding step
step-fits n None group few r h =
    cond_both (fits_packet group) (record { done = []; run = Some group }) (record { done = poured group; run = None }) (IsStep n)
    (λ within. record { run = fits-run n group h within; done = tt })
    (λ large. record { run = tt; done = poured-packets n group h few })
step-fits n (Some run) group few r h =
    cond_both (fits_packet (join_streams run group)) (record { done = []; run = Some (join_streams run group) }) (cond (fits_packet group) (record { done = run ∷ []; run = Some group }) (record { done = run ∷ poured group; run = None })) (IsStep n)
    (λ within. record { run = fits-run n (join_streams run group) (length-join_streams n run group r.0.count h) within; done = tt })
    (λ over. cond_both (fits_packet group) (record { done = run ∷ []; run = Some group }) (record { done = run ∷ poured group; run = None }) (IsStep n)
    (λ within. record { run = fits-run n group h within; done = (r.0, tt) })
    (λ large. record { run = tt; done = (r.0, poured-packets n group h few) }))

pub steps-fit : (n : ℕ) (run : Option (List (List ℕ))) (groups : List (List (List ℕ))) → n ≤ 512 → IsRun n run → AllByRecursion (HasStreams n) groups → IsStep n (steps run groups)
unfolding steps
steps-fit n run [] few r h = record { run = r; done = tt }
steps-fit n run (group ∷ groups) few r h =
    let first = step-fits n run group few r h.0 in
    let later = steps-fit n (step run group).run groups few first.run h.1 in
    record { run = later.run; done = all-append (IsPacket n) (step run group).done (steps (step run group).run groups).done first.done later.done }
