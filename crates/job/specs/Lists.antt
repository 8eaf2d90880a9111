-- The job that the code's lists are.
use Rattle.std.specs.Prelude.{ℕ, List, map}
use Rattle.model.specs.Job as model
use Rattle.model.specs.Job.{lift, bay, track, call}
use Rattle.job.specs.declared.state.Track.{Track}
use Rattle.job.specs.declared.state.CallKind.{CallKind}
use Rattle.job.specs.declared.state.CallKind.TheVariants.{Lift, Bay}
use Rattle.job.specs.declared.state.Call.{Call}
use Rattle.job.specs.declared.state.Job.{Job}

abbrev pub as_track : Track → model.Track
as_track t = track t.from t.to

abbrev pub as_kind : CallKind → model.CallKind
as_kind Lift = lift
as_kind Bay = bay

abbrev pub as_call : Call → model.Call
as_call q = call (as_kind q.kind) q.cell q.deadline

abbrev pub job_of : Job → model.Job
job_of s = record {
  cells = s.cells;
  tracks = map as_track s.tracks.items;
  carts = s.carts.items;
  calls = map as_call s.calls.items;
}

-- what the tracks and the calls have of each kind, as lists
abbrev pub froms_of : List Track → List ℕ
froms_of = map (λ t. t.from)

abbrev pub tos_of : List Track → List ℕ
tos_of = map (λ t. t.to)

abbrev pub kinds_of : List Call → List model.CallKind
kinds_of = map (λ q. as_kind q.kind)

abbrev pub cells_of : List Call → List ℕ
cells_of = map (λ q. q.cell)

abbrev pub deadlines_of : List Call → List ℕ
deadlines_of = map (λ q. q.deadline)
