-- The numbers of the server.
use Rattle.std.specs.Prelude.{◌≡◌, ◌==◌, ◌+◌, ◌-◌, ◌*◌, ◌%◌, ◌≤◌, ◌<◌, nat_le, codes, Option, Some, None, IfSome, Ok, Err, bytes_eq, if◌then◌else◌}
use Rattle.toml.specs.Data.{Data, Members, string, get_member}
use Rattle.rtsp_content.specs.declared.fault.TableFault.TheVariants.{BadValue}
use Rattle.rtsp_content.specs.declared.server.Players.{Players}
use Rattle.rtsp_content.specs.declared.server.Players.TheVariants.{Strict, Gstreamer}
use Rattle.rtsp_content.specs.declared.server.Server.{Server}
use Rattle.rtsp_content.specs.Fault.{Read, must}
use Rattle.rtsp_text.specs.Results.{◌>>=◌}
use Rattle.rtsp_content.specs.declared.limits.TheConstants.{LEAST_PORT, GREATEST_PORT, MAX_PAIRS, MAX_UPLINK, MAX_SESSIONS, MAX_TIMEOUT, DEFAULT_TIMEOUT, DEFAULT_RENEWAL_STEP, MAX_JOURNAL, MAX_WORKERS, DEFAULT_WORKERS, MAX_CONNECTIONS}
use Rattle.rtsp_content.specs.Keys.{number_at, number_at_or, optional_number_at}

-- the players that a word names
abbrev pub as_players : Data → Read Players
as_players (string text) = if bytes_eq text (codes "strict") then Ok Strict else (if bytes_eq text (codes "gstreamer") then Ok Gstreamer else Err BadValue)
as_players _ = Err BadValue

-- those of RFC 7826 alone where nothing is said
abbrev pub players_in : Option Data → Read Players
players_in None = Ok Strict
players_in (Some d) = as_players d

-- what the table `[server]` says; all ports of all pairs are at most 65,535, and the step of renewals, in milliseconds,
-- is below the timeout, in seconds; an address has at most all sessions and all connections
abbrev pub server_of : Members → Read Server
server_of ms = do
  first_port ← number_at (codes "first_port") LEAST_PORT GREATEST_PORT ms
  even ← must (first_port % 2 == 0) BadValue
  pairs ← number_at (codes "pairs") 0 MAX_PAIRS ms
  inside ← must (nat_le (first_port + 2 * pairs) (GREATEST_PORT + 1)) BadValue
  uplink ← number_at (codes "uplink") 0 MAX_UPLINK ms
  sessions ← number_at (codes "sessions") 1 MAX_SESSIONS ms
  timeout ← number_at_or (codes "timeout") 1 MAX_TIMEOUT DEFAULT_TIMEOUT ms
  renewal_step ← number_at_or (codes "renewal_step") 1 (timeout * 1000 - 1) DEFAULT_RENEWAL_STEP ms
  journal ← number_at_or (codes "journal") 1 MAX_JOURNAL MAX_JOURNAL ms
  workers ← number_at_or (codes "workers") 1 MAX_WORKERS DEFAULT_WORKERS ms
  sessions_per_address ← optional_number_at (codes "sessions_per_address") 1 sessions ms
  connections_per_address ← optional_number_at (codes "connections_per_address") 1 MAX_CONNECTIONS ms
  players ← players_in (get_member (codes "players") ms)
  Ok (record {
    first_port = first_port;
    pairs = pairs;
    uplink = uplink;
    sessions = sessions;
    timeout = timeout;
    renewal_step = renewal_step;
    journal = journal;
    workers = workers;
    sessions_per_address = sessions_per_address;
    connections_per_address = connections_per_address;
    players = players;
  })

-- the limits of these numbers
pub record IsWithinLimits (server : Server) : Type 0 where
  pub port_least : LEAST_PORT ≤ server.first_port
  pub port_even : server.first_port % 2 ≡ 0
  pub pairs_most : server.pairs ≤ MAX_PAIRS
  pub ports_most : server.first_port + 2 * server.pairs ≤ GREATEST_PORT + 1
  pub uplink_most : server.uplink ≤ MAX_UPLINK
  pub sessions_least : 1 ≤ server.sessions
  pub sessions_most : server.sessions ≤ MAX_SESSIONS
  pub timeout_least : 1 ≤ server.timeout
  pub timeout_most : server.timeout ≤ MAX_TIMEOUT
  pub step_least : 1 ≤ server.renewal_step
  pub step_most : server.renewal_step < server.timeout * 1000
  pub journal_least : 1 ≤ server.journal
  pub journal_most : server.journal ≤ MAX_JOURNAL
  pub workers_least : 1 ≤ server.workers
  pub workers_most : server.workers ≤ MAX_WORKERS
  pub sessions_share : IfSome server.sessions_per_address (λ share. (1 ≤ share) × (share ≤ server.sessions))
  pub connections_share : IfSome server.connections_per_address (λ share. (1 ≤ share) × (share ≤ MAX_CONNECTIONS))
