-- What the reader's answer stands for.
use Rattle.std.specs.Prelude.{length, List, Result, Ok, Err}
use Rattle.model.specs.Job.{Job}
use Rattle.model.specs.ReadSheet as model
use Rattle.model.specs.ReadSheet.{bad, plan, cannot}
use Rattle.job.specs.declared.held.Ride.{Ride}
use Rattle.job.specs.Held.{paths_to, spares_from, as_chokes}
use Rattle.sheet.specs.declared.BadLine.{BadLine}
use Rattle.sheet.specs.declared.Sheet.{Sheet}
use Rattle.sheet.specs.declared.Sheet.TheVariants.{Plan, Cannot}

abbrev pub form_of : Job → Result Sheet BadLine → List Ride → model.Sheet
form_of j (Err e) rides = bad e.line
form_of j (Ok Plan) rides = plan (paths_to rides (length j.calls)) (spares_from rides (length j.calls))
form_of j (Ok (Cannot xs)) rides = cannot (as_chokes xs.items)
