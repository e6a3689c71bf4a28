-- How a writer puts groups into packets, a group at a time.
use Rattle.std.specs.Prelude.{ℕ, if◌then◌else◌, List, [], ◌∷◌, ◌++◌, Option, Some, None}
use Rattle.e57_layout.specs.Packing.{join_streams, fits_packet, poured}

-- what groups lead to: the streams of the packets that are whole, and the run of groups that is under way
pub record Step : Type 0 where
  pub done : List (List (List ℕ))
  pub run : Option (List (List ℕ))

-- a group after a run that is under way
unfoldable pub step : Option (List (List ℕ)) → List (List ℕ) → Step
step None group =
    if fits_packet group then record { done = []; run = Some group } else record { done = poured group; run = None }
step (Some run) group =
    if fits_packet (join_streams run group) then record { done = []; run = Some (join_streams run group) }
    else (if fits_packet group then record { done = run ∷ []; run = Some group }
    else record { done = run ∷ poured group; run = None })

-- groups, one after another
unfoldable pub steps : Option (List (List ℕ)) → List (List (List ℕ)) → Step
steps run [] = record { done = []; run = run }
steps run (group ∷ groups) = record {
  done = (step run group).done ++ (steps (step run group).run groups).done;
  run = (steps (step run group).run groups).run;
}
