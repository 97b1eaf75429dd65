use Rattle.pprof.specs.Strings.{texts_of}
use Rattle.pprof.proofs.Growing.{at_kept, grows_trans, if_ok, key_kept}
use Rattle.pprof.specs.Labels.{comm_key, pid_key}
use Rattle.pprof.proofs.builder.Builder.labels.Goals as goal

pub returns-in_err-pid-clause-texts : goal.returns-in_err-pid-clause-texts
returns-in_err-pid-clause-texts c = grows_trans (texts_of c.args.self.now.strings) (texts_of c.intern_text.new.self) (texts_of c.label_key.new.strings) c.intern_text.ensures.texts c.label_key.ensures.texts

pub returns-in_err-tid-clause-texts : goal.returns-in_err-tid-clause-texts
returns-in_err-tid-clause-texts c =
    let with_pid = grows_trans (texts_of c.args.self.now.strings) (texts_of c.intern_text.new.self) (texts_of c.label_key.new.strings) c.intern_text.ensures.texts c.label_key.ensures.texts in
    grows_trans (texts_of c.args.self.now.strings) (texts_of c.label_key.new.strings) (texts_of c.label_key-2.new.strings) with_pid c.label_key-2.ensures.texts

pub returns-clause-texts : goal.returns-clause-texts
returns-clause-texts c =
    let with_pid = grows_trans (texts_of c.args.self.now.strings) (texts_of c.intern_text.new.self) (texts_of c.label_key.new.strings) c.intern_text.ensures.texts c.label_key.ensures.texts in
    grows_trans (texts_of c.args.self.now.strings) (texts_of c.label_key.new.strings) (texts_of c.label_key-2.new.strings) with_pid c.label_key-2.ensures.texts

pub returns-clause-ok : goal.returns-clause-ok
returns-clause-ok c =
    let with_comm = texts_of c.intern_text.new.self in
    let with_pid = texts_of c.label_key.new.strings in
    let last = texts_of c.label_key-2.new.strings in
    let after_comm = grows_trans with_comm with_pid last c.label_key.ensures.texts c.label_key-2.ensures.texts in
    if_ok c.take_labels.result (λ labels are. record {
      comm = c.in_ok-comm.comm;
      pid = c.in_ok-pid.pid;
      tid = c.in_ok-tid.tid;
      comm_is = at_kept with_comm last after_comm c.in_ok-comm.comm comm_key c.in_ok-comm.ensures.ok.is_at;
      pid_is = key_kept with_pid last c.label_key-2.ensures.texts pid_key c.args.thread.pid c.in_ok-pid.pid c.in_ok-pid.ensures.ok;
      tid_is = c.in_ok-tid.ensures.ok;
      labels_are = are;
    }) c.take_labels.ensures
