-- A PATH line and a SPARE line, by whether the cart meets a call.
use Rattle.std.specs.Prelude.{List, ℕ, [], ◌∷◌, ◌++◌, Bool, true, false}
use Rattle.model.specs.Text.{fields, line, path_word, spare_word}
use Rattle.model.specs.SheetText.{path_numbers, spare_numbers}
use Rattle.job.specs.declared.held.Ride.{Ride}
use Rattle.job.specs.Held.{as_path, as_ride}

-- the word and the first numbers
abbrev pub opening : Bool → Ride → List ℕ
opening true r = path_word ++ fields (r.cart ∷ r.call ∷ [])
opening false r = spare_word ++ fields (r.cart ∷ [])

abbrev pub ride_line : Bool → Ride → List ℕ
ride_line true r = line path_word (path_numbers (as_path r))
ride_line false r = line spare_word (spare_numbers (as_ride r))
