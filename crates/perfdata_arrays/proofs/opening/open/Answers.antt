use Rattle.perfdata_arrays.proofs.FileErrors.{file_open_error}
use Rattle.perfdata_arrays.proofs.PipeRecordsLemmas.{pipe_open_error}
use Rattle.perfdata_arrays.proofs.opening.open.Goals as goal

pub returns-in-Err : goal.returns-in-Err
returns-in-Err c = rw c.in-File.is (c.in-Err.error, c.status_of_error.ensures, file_open_error c.args.bytes.now c.in-Err.error c.in-Err.ensures)

pub returns-in-Err-parse_pipe : goal.returns-in-Err-parse_pipe
returns-in-Err-parse_pipe c = rw c.in-Pipe.is (c.in-Err-parse_pipe.error, c.status_of_error-in-Err-parse_pipe.ensures, pipe_open_error c.args.bytes.now c.in-Err-parse_pipe.error c.in-Err-parse_pipe.ensures)
