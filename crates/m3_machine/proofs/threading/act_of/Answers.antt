use Rattle.m3_machine.proofs.ThreadActs.{by_op, no_thread_op}
use Rattle.m3_machine.proofs.threading.act_of.Goals as goal

pub returns-in-Join-clause-acts : goal.returns-in-Join-clause-acts
returns-in-Join-clause-acts g c = λ t running. by_op _ _ c.in-Join.is _ _ _ _ _ _ _ _ (c.join.ensures.after t running)

pub returns-in-Acq-clause-acts : goal.returns-in-Acq-clause-acts
returns-in-Acq-clause-acts g c = λ t running. by_op _ _ c.in-Acq.is _ _ _ _ _ _ _ _ (c.acquire.ensures.after t running)

pub returns-in-Rel-clause-acts : goal.returns-in-Rel-clause-acts
returns-in-Rel-clause-acts g c = λ t running. by_op _ _ c.in-Rel.is _ _ _ _ _ _ _ _ (c.release.ensures.after t running)

pub returns-in-Wait-clause-acts : goal.returns-in-Wait-clause-acts
returns-in-Wait-clause-acts g c = λ t running. by_op _ _ c.in-Wait.is _ _ _ _ _ _ _ _ (c.wait.ensures.after t running)

pub returns-in-Sig-clause-acts : goal.returns-in-Sig-clause-acts
returns-in-Sig-clause-acts g c = λ t running. by_op _ _ c.in-Sig.is _ _ _ _ _ _ _ _ (c.wake_one.ensures.after t running)

pub returns-in-Bca-clause-acts : goal.returns-in-Bca-clause-acts
returns-in-Bca-clause-acts g c = λ t running. by_op _ _ c.in-Bca.is _ _ _ _ _ _ _ _ (c.wake_all.ensures.after t running)

pub returns-in-Alert-clause-acts : goal.returns-in-Alert-clause-acts
returns-in-Alert-clause-acts g c = λ t running. by_op _ _ c.in-Alert.is _ _ _ _ _ _ _ _ (c.alert.ensures.after t running)

pub returns-in-Talert-clause-acts : goal.returns-in-Talert-clause-acts
returns-in-Talert-clause-acts g c = λ t running. by_op _ _ c.in-Talert.is _ _ _ _ _ _ _ _ (c.test_alert.ensures.after t running)

pub returns-in-Await-clause-acts : goal.returns-in-Await-clause-acts
returns-in-Await-clause-acts g c = λ t running. by_op _ _ c.in-Await.is _ _ _ _ _ _ _ _ (c.alert_wait.ensures.after t running)

pub returns-in-Ajoin-clause-acts : goal.returns-in-Ajoin-clause-acts
returns-in-Ajoin-clause-acts g c = λ t running. by_op _ _ c.in-Ajoin.is _ _ _ _ _ _ _ _ (c.alert_join.ensures.after t running)

pub returns-in_default-clause-acts : goal.returns-in_default-clause-acts
returns-in_default-clause-acts g c = λ t running. no_thread_op _ c.in_default.not-Join c.in_default.not-Acq c.in_default.not-Rel c.in_default.not-Wait c.in_default.not-Sig c.in_default.not-Bca c.in_default.not-Alert c.in_default.not-Talert c.in_default.not-Await c.in_default.not-Ajoin c.requires.operation _ _ _ _ _ _ _ _
