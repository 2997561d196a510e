-- What stands behind links that are watched.
use Rattle.std.specs.Prelude.{ℕ, List, Option}
use Rattle.grasp_trace.specs.declared.page.Page.{Page}
use Rattle.grasp_trace.specs.declared.traced.Traced.{Traced}
use Rattle.grasp_trace.specs.declared.writer.Writer.{Writer}
use Rattle.grasp_trace.specs.Sheet.{Sheet}
use Rattle.grasp_trace.specs.Watching.{Cutters, cutters_of}

-- what is known of the sink of lines, and which directions of which streams are watched
pub record Trace : Type 0 where
  pub sheet : Sheet
  pub cutters : Cutters

module _ {L K : Type 0} where
  -- the links that are watched
  abbrev pub links_of : Traced L K → L
  links_of traced = traced.links

  -- the sink of the lines
  abbrev pub sink_of : Traced L K → K
  sink_of traced = traced.writer.page.sink

  -- how many lines were left out for want of memory
  abbrev pub left_out_of : Traced L K → ℕ
  left_out_of traced = traced.writer.page.left_out

  -- the directions that are watched
  abbrev pub watched_of : Traced L K → Cutters
  watched_of traced = cutters_of traced.writer.streams

-- with what a sink tells of what was written to it, and of its faults
module _ {K : Type 0} (written : K → Option (List ℕ)) (faults : K → ℕ) where
  -- of a page
  abbrev pub page_sheet : Page K → Sheet
  page_sheet page = record { written = written page.sink; faults = faults page.sink; left_out = page.left_out }

  -- of what writes the lines
  abbrev pub writer_trace : Writer K → Trace
  writer_trace writer = record { sheet = page_sheet writer.page; cutters = cutters_of writer.streams }

  -- of links that are watched
  abbrev pub trace_of : {L : Type 0} → Traced L K → Trace
  trace_of traced = writer_trace traced.writer
