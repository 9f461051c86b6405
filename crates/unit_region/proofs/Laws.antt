-- What a line leaves of what is known of its window: what the crates above cite.
pub use Rattle.unit_region.proofs.Growing.{StrokesGrow, keeps_on, keeps_reads, keeps_same, keeps_write, keeps_writes, own_same, own_then, strokes_none, strokes_on, strokes_read, strokes_same, strokes_written}
pub use Rattle.unit_region.proofs.Fronts.{front_as, front_self, front_then, on_as, on_cases, on_front, on_grows, on_self, on_then, once_read}
pub use Rattle.unit_region.proofs.Putting.{none_put, same_puts, tce_puts}
pub use Rattle.unit_region.proofs.RegionTold.{ends_so, fill_told, filled_long, front_of, if_bytes, if_done, laid_there, peek_told, poke_told, put_says, read_there, shown_says, tce_told, touched, write_there, written_says}
pub use Rattle.unit_region.proofs.Marking.{just_by, just_read, just_under, line_marked, none_under, with_front, with_none, write_under}
