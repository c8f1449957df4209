-- The customer's three demands (specs/Demand.antt) hold of every call of every function that a host can call. Assumes nothing.
use Rattle.scope.specs.Alone.{build_answer, read_answer}
use Rattle.demands.specs.Demand.{frame_call, table_call, read_call, Demands}
use Rattle.demands.proofs.Frames.{stated, demand_1_of, demand_2_of, forgotten_of, answer_of_lem}
use Rattle.demands.proofs.Tables.{table_stated, demand_3_table_of, table_forgotten_of, usable}
use Rattle.demands.proofs.Readings.{read_stated, demand_3_reading_of, reading_forgotten_of}

pub demands : Demands
demands = record {
  demand_1 = λ f c. demand_1_of (frame_call f c) (stated f c);
  forgotten = λ f h c d. forgotten_of (frame_call f c) (frame_call h d) (stated f c) (stated h d);
  demand_2 = λ f c. demand_2_of (frame_call f c) (stated f c);
  answer_8 = λ c. answer_of_lem _ _ _ _ _ _ _ _ _ c.allowed;
  answer_16 = λ c. answer_of_lem _ _ _ _ _ _ _ _ _ c.allowed;
  demand_3_table = λ f c. demand_3_table_of (table_call f c) (table_stated f c);
  table_forgotten = λ f h c d. table_forgotten_of (table_call f c) (table_call h d) (table_stated f c) (table_stated h d);
  answer_table = λ c. unfold build_answer in c.allowed.answer;
  demand_3_lookup = usable;
  demand_3_reading = λ f c. demand_3_reading_of (read_call f c) (read_stated f c);
  reading_forgotten = λ f h c d. reading_forgotten_of (read_call f c) (read_call h d) (read_stated f c) (read_stated h d);
  answer_reading = λ c. unfold read_answer in c.allowed.answer;
}
