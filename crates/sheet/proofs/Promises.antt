-- All statements of specs/Promise.antt are proved. Assumes nothing.
--   promises    each of them, from the file of its idea
use Rattle.sheet.specs.Promise.{Promises}
use Rattle.sheet.proofs.ReadBack.{sheet_length, reads_back}
use Rattle.sheet.proofs.WriteBack.{writes_back, one_sheet}

pub promises : Promises
promises = record { sheet_length = sheet_length; reads_back = reads_back; writes_back = writes_back; one_sheet = one_sheet }
