-- `read::next`: a reader that does not fit is answered at once; else what is due is done by the function of its kind.
use Rattle.sitefile.proofs.ReadNext.{size_due, uplink_due, link_due, close_due, report_due, end_done, stop_done, next_unfit, next_done, ups_inside}
use Rattle.sitefile.proofs.read.next.Goals as goal

pub returns-then-not-counts_fit : goal.returns-then-not-counts_fit
returns-then-not-counts_fit c = search next_unfit

pub size-requires : goal.size-requires
size-requires c = search size_due

pub uplink-requires : goal.uplink-requires
uplink-requires c = search uplink_due

pub link-requires : goal.link-requires
link-requires c = search link_due

pub close-requires : goal.close-requires
close-requires c = search close_due

pub report-requires : goal.report-requires
report-requires c = search report_due

pub returns-in-End : goal.returns-in-End
returns-in-End c = search (next_done, end_done)

pub returns-in-Stop : goal.returns-in-Stop
returns-in-Stop c = search (next_done, stop_done)

pub returns-in-Size : goal.returns-in-Size
returns-in-Size c = search (next_done, c.size.ensures)

pub returns-in-Uplink : goal.returns-in-Uplink
returns-in-Uplink c = search (next_done, c.uplink.ensures)

pub returns-in-Link : goal.returns-in-Link
returns-in-Link c = search (next_done, c.link.ensures, ups_inside)

pub returns-in-Close : goal.returns-in-Close
returns-in-Close c = search (next_done, c.close.ensures)

pub returns-in-Report : goal.returns-in-Report
returns-in-Report c = search (next_done, c.report.ensures)
