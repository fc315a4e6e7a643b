-- What a reader of frames reads at its position, and the reader after that (Rules 9.5): past the frame that was read, and where it was after a refusal and at the end. Assumes nothing.
use Rattle.readers.specs.declared.reader.Reader.{Reader}
use Rattle.frames.specs.Read.{Reading, read_of, position_after}

abbrev pub read_by : Reader → Reading
read_by r = read_of r.bytes.now r.at

abbrev pub moved_past : Reader → Reader
moved_past r = record { bytes = r.bytes; at = position_after (read_by r) r.at }
