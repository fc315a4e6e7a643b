-- What each call writes, seen through the view: counts, seats and rows. Proved from the laws of `rows` alone.

-- rows
pub use Rattle.history.proofs.RowEffects.{reads_put, put_none, region_written, row_written, reads_in}
-- the station's own record
pub use Rattle.history.proofs.StationEffects.{submit_written, submit_rows, take_written, take_rows, answer_written, answer_rows, kept_written, kept_rows, walk_written, walk_rows}
-- insert and unlink
pub use Rattle.history.proofs.InsertEffects.{moved_cursor, insert_written, insert_same_rows}
pub use Rattle.history.proofs.UnlinkEffects.{moved_seat, unlink_written, unlink_same_rows}
-- opening
pub use Rattle.history.proofs.OpenEffects.{OpenedAs, open_written}
