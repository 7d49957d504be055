-- What the two archives mean.
use Rattle.std.specs.Prelude.{◌-◌, length, take}
use Rattle.archive.specs.declared.bytes.ByteArchive.{ByteArchive}
use Rattle.archive.specs.declared.table.TableArchive.{TableArchive}
use Rattle.archive.specs.Contents.{Contents, contents}
use Rattle.archive.specs.Packed.{rows_in, places}

abbrev pub byte_contents : ByteArchive → Contents
byte_contents a = contents (rows_in a.used a.memory.now) (places (length a.memory.now) - a.used)

abbrev pub table_contents : TableArchive → Contents
table_contents t = contents (take t.used t.records) (512 - t.used)
