-- `floor::put_lines` goes over the tracks. Invariant: the lines of those before the index stand behind the FLOOR line. There is room for one line more, since the lines of so many
-- tracks are no longer than those of all. Assumes nothing.
use mathlib.Core.Path.{ap, ◌∙◌}
use mathlib.Core.List.{[], ◌∷◌, map}
use native.Mathlib.Omega.{arith}
use borrow.Author.Rules.{rules}
use lib.ListN.{length, get_or, take, length-append}
use lib.Seq.{take_all}
use Rattle.model.specs.Text.{line, floor_word, track_word}
use Rattle.model.specs.SheetText.{lines_text}
use Rattle.model.specs.GridMap.{floor_lines, track_numbers}
use Rattle.job.specs.Lists.{as_track}
use Rattle.job.proofs.Lists.{no_track, map_more}
use Rattle.text.specs.Wrote.{Writes}
use Rattle.text.proofs.Wrote.{wrote_by, writes_lines, writes_long, writes_more, writes_none}
use Rattle.gridmap.proofs.FloorLaws.{line_fits}
use Rattle.gridmap.proofs.floor.put_lines.Goals as goal

pub head-requires : goal.head-requires
head-requires c =
    let s = c.args in
    let lines = lines_text (λ t. track_word) track_numbers (map as_track s.tracks.now) in
    (c.requires.0, omega (arith, c.requires.1, ap length c.new-pen.ensures.text, c.new-pen.ensures.place, length-append (line floor_word (s.cells ∷ [])) lines))

pub loop-track-init : goal.loop-track-init
loop-track-init c = let w = c.head.ensures.wrote in writes_none (omega (arith, w.next, w.fits, writes_long c.head.ensures))

pub pair_line-requires : goal.pair_line-requires
pair_line-requires c =
    let s = c.args in
    let l = c.loop-track in
    let h = c.head.ensures in
    let r = line_fits s.tracks.now s.cells l.track-index c.loop-track-test.true in
    let long = writes_long h ∙ ap length c.new-pen.ensures.text in (
      omega arith,
      omega arith,
      omega (arith, c.requires.1, long, writes_long l.invariant, h.wrote.next, c.new-pen.ensures.place, l.invariant.wrote.next, rw (← c.from-a.ensures, ← c.from-b.ensures) at r),
    )

pub loop-track-preserved : goal.loop-track-preserved
loop-track-preserved c =
    let l = c.loop-track in
    let ts = c.args.tracks.now in
    let t = as_track (get_or ts l.track-index no_track) in
    rw (map_more as_track ts l.track-index no_track c.loop-track-test.true)
    (writes_lines (λ t. track_word) track_numbers (map as_track (take l.track-index ts)) t l.invariant (rw (c.from-a.ensures, c.from-b.ensures) at c.pair_line.ensures))

pub returns : goal.returns
returns c =
    let s = c.args in
    let l = c.loop-track in
    let w : Writes c.new-pen.result (floor_lines s.cells (map as_track s.tracks.now)) l.pen = writes_more c.head.ensures (rw (take_all l.track-index s.tracks.now (omega arith)) at l.invariant) in
    let same = w.same in
    wrote_by c.new-pen.ensures.text c.new-pen.ensures.place w (search rules)
