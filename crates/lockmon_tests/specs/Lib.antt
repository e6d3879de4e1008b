pub mod LentHosts
